pub mod Verdicts
pub mod Scanners
pub mod Rows
pub mod Replays
pub mod Tokens
