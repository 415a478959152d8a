pub mod Results
pub mod Files
pub mod Blocks
