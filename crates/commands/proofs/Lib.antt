pub mod Amounts
pub mod Differing
pub mod Exact
pub mod Inverses
