pub mod Queues
pub mod Places
pub mod Counts
pub mod Merging
pub mod QueueTable
pub mod QueueParts
