pub mod WindowInside
pub mod WindowValue
