pub mod SetLaws
pub mod OrderLaws
