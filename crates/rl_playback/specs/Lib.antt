pub mod Defaults
pub mod Books
pub mod Log
pub mod Stands
pub mod Deeds
