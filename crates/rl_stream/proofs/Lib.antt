pub mod Hosted
pub mod Joined
pub mod Blockwise
pub mod Steps
pub mod Told
