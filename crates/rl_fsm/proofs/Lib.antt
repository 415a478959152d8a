pub mod Bits
pub mod Asks
pub mod Ascending
pub mod PieceLaws
pub mod Walks
pub mod MadeLaws
pub mod ScannedLaws
