pub mod Blocks
pub mod Amounts
pub mod Words
