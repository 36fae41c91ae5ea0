pub mod BatchLaws
pub mod TopLaws
pub mod ReadLaws
