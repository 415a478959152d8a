pub mod Pushed
pub mod Newlines
pub mod ReadLaws
