pub mod ChoiceLaws
pub mod RefusalLaws
pub mod SizedLaws
