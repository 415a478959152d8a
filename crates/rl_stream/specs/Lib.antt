pub mod Lines
pub mod Log
pub mod Reading
pub mod Stands
pub mod Streams
