mod JobLaws
mod OrderLaws
mod QuietLaws
mod EndingLaws
pub mod PieceLaws
mod SoundLaws
pub mod NameLaws
