pub mod Cells
pub mod Adds
pub mod Nodes
pub mod Trees
pub mod Chains
pub mod Roots
pub mod Entries
pub mod Patterns
