pub mod Labels
pub mod Carries
pub mod LabelLaws
