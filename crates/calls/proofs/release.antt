-- An accepted release.
pub mod ReleaseFits
pub mod ReleaseLaws
pub mod ReleasePhases
pub mod GensLaws
