-- Whatever commands were accepted, each account's rows are a list within their rules.
pub mod CommandRows
pub mod FiniteRows
pub mod HeldAgain
pub mod InRange
pub mod LiveSessions
pub mod RequestRows
pub mod RowsKept
