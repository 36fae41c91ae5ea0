pub mod EmitLaws
pub mod RunLaws
pub mod BatchLaws
pub mod OutcomeLaws
