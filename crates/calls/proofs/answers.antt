-- The answers of the calls: refusals, outcomes, what an accepted one tells, and the sorted form of a list.
pub mod RefusalLaws
pub mod OutcomeLaws
pub mod AnswerLaws
pub mod AnswersReadBack
pub mod SortedForm
pub mod SingleLookups
