pub mod Hosts
pub mod Pieces
pub mod Inputs
pub mod Steps
pub mod Places
