pub mod Broken
pub mod Letters
