-- An accepted discard, batch by batch.
pub mod WaitLaws
pub mod DiscardFits
pub mod DiscardLaws
pub mod DiscardPhases
pub mod DiscardBatches
