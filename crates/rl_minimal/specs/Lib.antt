pub mod Minimal
pub mod Sound
pub mod Machine
