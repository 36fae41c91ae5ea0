pub mod PlaceRowLaws
pub mod RowLaws
pub mod TallyLaws
