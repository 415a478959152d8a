pub mod PlainRows
pub mod TestedRows
