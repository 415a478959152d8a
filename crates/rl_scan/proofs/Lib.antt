pub mod Asks
pub mod RangeLaws
pub mod SideLaws
pub mod CauseLaws
pub mod WalkLaws
pub mod FaultLaws
pub mod ClosedLaws
