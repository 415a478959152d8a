pub mod StepLaws
pub mod Merge
pub mod SetLaws
pub mod Numbers
pub mod Apart
pub mod PieceLaws
pub mod ClassLaws
pub mod SegmentLaws
