pub mod CodeRows
mod CutLaws
mod NumberLaws
mod OuterLaws
mod ReadLaws
pub mod StatementLaws
mod WalkLaws
