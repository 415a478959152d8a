pub mod Characters
pub mod KeyLaws
