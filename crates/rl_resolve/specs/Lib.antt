pub mod Descriptions
pub mod Refusals
pub mod Limits
pub mod Machines
pub mod Resolving
pub mod Instances
pub mod Answers
pub mod Forms
