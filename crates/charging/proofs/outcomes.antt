-- What each command comes to.
pub mod Allowing
pub mod KeptKeys
pub mod Operated
pub mod PartsServed
pub mod Refused
pub mod Requested
pub mod Serving
pub mod Stated
pub mod Vouchered
mod WorkedAllowances
