pub mod Entries
pub mod Lengths
pub mod Outer
pub mod Rows
pub mod Said
pub mod Statements
