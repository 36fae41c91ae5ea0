pub mod Lasts
pub mod Places
pub mod Bounds
pub mod Entries
pub mod EntryPlaces
pub mod EntrySteps
pub mod Chunks
