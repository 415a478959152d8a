pub mod CharacterLaws
pub mod QueueLaws
pub mod TurnLaws
pub mod FollowLaws
pub mod StoreLaws
pub mod OnceLaws
pub mod OpenLaws
