pub mod Sources
pub mod Sections
pub mod Printing
pub mod Compiles
pub mod Reads
