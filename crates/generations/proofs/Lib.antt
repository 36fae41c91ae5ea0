pub mod AskedLaws
pub mod OutcomeLaws
