pub mod Keeping
pub mod RangeLaws
pub mod StandsLaws
pub mod LiveLaws
pub mod PruneLaws
pub mod CauseLaws
