pub mod Marks
pub mod Lexeme
pub mod Literals
pub mod Grammar
pub mod Refusals
pub mod Steps
