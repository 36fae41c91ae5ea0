pub mod FieldLists
pub mod LruLaws
