-- What a run promises of its commands and of the tables after them.
pub mod AcceptedTables
pub mod Accounted
pub mod FromEquations
pub mod HeldRuns
pub mod Promised
pub mod RunLemmas
pub mod TablesAfter
