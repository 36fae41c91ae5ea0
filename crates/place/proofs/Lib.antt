pub mod CallLaws
pub mod ChangeLaws
pub mod ChosenLaws
pub mod ReadLaws
