pub mod Commands
pub mod Given
pub mod Runs
pub mod Compiles
pub mod Told
