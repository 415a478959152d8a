pub mod ReadLaws
pub mod NameLaws
pub mod PrintLaws
pub mod NodeLaws
pub mod SourceLaws
pub mod Complete
pub mod Steps
pub mod TableLaws
