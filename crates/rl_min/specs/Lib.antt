pub mod Numbering
pub mod Merged
pub mod Least
pub mod Fewest
