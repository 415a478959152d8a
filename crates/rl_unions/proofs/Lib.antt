pub mod Calm
pub mod Joins
pub mod Regrouping
pub mod Growing
