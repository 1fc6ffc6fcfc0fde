pub mod Steps
pub mod Numbers
pub mod Months
pub mod NumberWords
pub mod Lines
pub mod Parts
pub mod StreamWords
