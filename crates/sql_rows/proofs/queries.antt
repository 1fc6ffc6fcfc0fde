-- What a SELECT answers of one table or several: its tests, its order and its parts.
pub mod Beside
pub mod Coupled
pub mod FirstRow
pub mod OfParts
pub mod OfSession
pub mod Ranges
pub mod Tests
pub mod Unioned
pub mod Unions
pub mod Within
