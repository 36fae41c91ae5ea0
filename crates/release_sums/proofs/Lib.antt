pub mod ClearLaws
pub mod FreedLaws
pub mod SumLaws
pub mod FoundLaws
pub mod TakeLaws
