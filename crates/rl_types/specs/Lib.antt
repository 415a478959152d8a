pub mod Alphabet
pub mod KeyRange
pub mod Limits
pub mod Status
