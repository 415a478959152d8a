pub mod Priorities
pub mod Written
pub mod Ties
pub mod Regular
