pub mod StretchLaws
pub mod TableBytes
pub mod FormBlocks
pub mod FormTable
pub mod OutcomeLaws
