-- Lists and their bytes: what is written is read back, what is read is written again, and every number fits its bytes.
pub mod Blocks
pub mod FieldBytes
pub mod FieldTotals
pub mod TreeFields
pub mod OftenLaws
pub mod KeyFitsLaws
pub mod HeadTrip
pub mod VolumeTrip
pub mod RequestTrip
pub mod CallTrip
pub mod FormFields
pub mod ChangeTrip
pub mod ApplyLaws
