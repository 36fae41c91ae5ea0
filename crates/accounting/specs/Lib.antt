pub mod Kinds
pub mod RowBytes
pub mod Tally
