pub mod Found
pub mod FitLaws
pub mod WriteLaws
pub mod TwinLaws
pub mod NameLaws
pub mod NamedLaws
