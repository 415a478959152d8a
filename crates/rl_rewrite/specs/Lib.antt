pub mod Plain
pub mod Walk
pub mod Sizes
pub mod Steps
pub mod Measures
pub mod Drafts
pub mod Entries
