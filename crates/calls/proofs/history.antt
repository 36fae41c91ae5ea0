-- Every history: the invariant, what each call keeps of it, and the claim.
pub mod View
pub mod Phases
pub mod ClaimLaws
pub mod CarriedLaws
pub mod HistoryKeeps
pub mod HistoryRuns
pub mod HistoryRecords
pub mod Demand3
pub mod LiveGenerations
