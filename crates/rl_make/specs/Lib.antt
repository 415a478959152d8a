pub mod Writes
pub mod Twins
pub mod Named
