pub mod Ranges
pub mod Steps
pub mod Numbers
pub mod Rows
