pub mod Ready
pub mod Spelled
