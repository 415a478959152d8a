pub mod First
pub mod Laws
pub mod Order
pub mod Rows
