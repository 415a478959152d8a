pub mod Places
pub mod Walks
pub mod States
pub mod Canonical
pub mod Laws
