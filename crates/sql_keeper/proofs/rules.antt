-- Rows that stay in their rules, and none without a meaning.
pub mod OwnBooks
pub mod PlainRows
pub mod RuledRows
pub mod Tidy
pub mod TidyChanges
pub mod TidySweeps
