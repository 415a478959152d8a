pub mod Ends
pub mod KeyParts
pub mod Moves
pub mod Rows
pub mod Small
pub mod Steps
pub mod TargetParts
