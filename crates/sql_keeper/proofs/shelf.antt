-- The shelf of books, as its texts and rows are stored, read and added to.
pub mod AddedBooks
pub mod Again
pub mod BookTexts
pub mod Dated
pub mod OneShelf
pub mod Shelved
pub mod Shelving
