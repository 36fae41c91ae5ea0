-- Laws of lists, of tests, of totals and of sorts.
pub mod AdjacentLaws
pub mod AllLaws
pub mod AllOfLaws
pub mod AnyLaws
pub mod AscendLaws
pub mod BoolLaws
pub mod ListedLaws
pub mod MapLaws
pub mod OftenTest
pub mod OneSort
pub mod OrderLaws
pub mod SortLaws
pub mod SortParts
pub mod ThoseLaws
pub mod TotalLaws
pub mod TwiceLaws
pub mod WeakLaws
