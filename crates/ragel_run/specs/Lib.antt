pub mod Sources
pub mod Files
pub mod Replay
pub mod Upgrade
pub mod Made
pub mod Streamed
pub mod Ends
pub mod Reads
