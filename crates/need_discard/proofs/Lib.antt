pub mod TableLaws
pub mod ChosenLaws
