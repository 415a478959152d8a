pub mod Apart
pub mod FormLaws
pub mod Levels
pub mod Lists
pub mod QuietLaws
pub mod TreeLaws
