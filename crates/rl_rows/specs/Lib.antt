pub mod Replays
pub mod PlainRows
pub mod TestedRows
