pub mod RootLaws
pub mod BatchLaws
pub mod VolumeLaws
pub mod SectionPlaces
pub mod NextLaws
pub mod ResultLaws
pub mod RefusalLaws
