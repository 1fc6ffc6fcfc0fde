pub mod Faults
pub mod Rows
pub mod Files
pub mod Told
