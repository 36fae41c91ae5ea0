pub mod BucketLaws
pub mod ClockLaws
pub mod QueueLaws
pub mod RootLaws
pub mod SlotTables
pub mod StepLaws
pub mod WalkLaws
pub mod ZipLaws
