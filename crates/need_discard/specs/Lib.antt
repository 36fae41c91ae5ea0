pub mod Kept
pub mod Table
pub mod Chosen
