pub mod RecordLaws
pub mod LookupLaws
pub mod JointLaws
pub mod LookingLaws
