pub mod Runs
pub mod Walks
