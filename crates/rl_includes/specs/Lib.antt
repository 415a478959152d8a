pub mod Names
pub mod Characters
pub mod Turns
pub mod Unrolling
pub mod Answers
