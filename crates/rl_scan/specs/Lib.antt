pub mod Beside
pub mod Same
pub mod Scanners
pub mod Walks
pub mod Closed
