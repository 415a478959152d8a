pub mod Faults
pub mod TableNames
pub mod Parts
pub mod Reading
pub mod NameTables
pub mod Course
