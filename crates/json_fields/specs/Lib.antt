pub mod View
pub mod Gives
pub mod Fields
pub mod Order
pub mod Spelling
pub mod Tokens
pub mod Unit
