pub mod Rows
pub mod Projection
pub mod Grows
pub mod Whole
pub mod Twins
pub mod LineTexts
pub mod OwnPicks
