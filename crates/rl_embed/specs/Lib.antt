pub mod Embeds
pub mod Changed
pub mod Marked
pub mod Guarded
