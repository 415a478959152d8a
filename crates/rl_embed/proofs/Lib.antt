pub mod ChangedLaws
pub mod EmbedLaws
pub mod StatesLaws
pub mod MarkLaws
pub mod EdgeLaws
pub mod GuardLaws
