pub mod PlaceLaws
pub mod AllocLaws
pub mod RefusalLaws
pub mod RowLaws
pub mod KeyLaws
pub mod GenRecordLaws
pub mod RootLaws
pub mod CountLaws
