pub mod Room
pub mod Pieces
pub mod Longest
pub mod Integers
pub mod Steps
pub mod Walks
pub mod Regions
