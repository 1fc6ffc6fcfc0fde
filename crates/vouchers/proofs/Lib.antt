pub mod FieldLemmas
pub mod RecordLemmas
pub mod FileLemmas
pub mod Examples
pub mod ToldLemmas
