pub mod lists
pub mod names
pub mod puts
pub mod queries
pub mod removals
pub mod rules
pub mod selections
pub mod writes
