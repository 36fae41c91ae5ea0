pub mod LastSlotLaws
pub mod LaidLaws
pub mod NextFitLaws
