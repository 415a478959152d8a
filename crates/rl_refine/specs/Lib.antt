pub mod Classes
pub mod Covers
pub mod Splits
pub mod Links
