-- What of an account's rows is dead for good, and what isn't.
pub mod DeadFacts
pub mod DeadRows
pub mod PartedRows
