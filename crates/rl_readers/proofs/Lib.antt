pub mod Phrases
pub mod Good
