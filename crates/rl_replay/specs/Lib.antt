pub mod Script
pub mod Sessions
pub mod Host
pub mod OwnPicks
pub mod Lines
pub mod Written
pub mod ScriptRows
