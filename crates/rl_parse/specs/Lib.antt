pub mod Reading
pub mod Classes
pub mod Rules
pub mod Parse
