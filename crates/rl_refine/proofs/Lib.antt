pub mod CoverLaws
pub mod EdgeLaws
pub mod ListLaws
pub mod SplitLaws
pub mod AlikeLaws
pub mod LinkLaws
