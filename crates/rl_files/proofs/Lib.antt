pub mod ResultLaws
pub mod TokenForms
pub mod TokenLists
pub mod TreeLaws
pub mod PartLaws
pub mod FileLaws
pub mod FileOnce
