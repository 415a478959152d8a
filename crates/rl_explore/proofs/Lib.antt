pub mod NumberLaws
pub mod Edges
pub mod RowLaws
pub mod ExploredLaws
