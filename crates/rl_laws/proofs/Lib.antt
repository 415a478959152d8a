pub mod Greatest
pub mod Leading
pub mod Forms
pub mod Sets
pub mod Joins
pub mod Tables
pub mod Stamps
pub mod Regulars
