-- What INSERT and UPDATE make of a table, and so of the content.
pub mod Adds
pub mod Inserts
pub mod Keyed
pub mod Plains
pub mod Replaces
pub mod Stays
pub mod Updates
pub mod Writes
