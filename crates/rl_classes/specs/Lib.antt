pub mod Steps
pub mod Sets
pub mod Pieces
pub mod Classes
