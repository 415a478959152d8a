pub mod Texts
pub mod Forms
pub mod Sayings
pub mod Reading
