pub mod Names
pub mod Code
pub mod Lines
pub mod Texts
pub mod Seen
pub mod Rows
