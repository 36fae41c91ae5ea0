pub mod BitLaws
pub mod MarkLaws
