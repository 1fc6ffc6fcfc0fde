-- The accounts that a sweep reads, brings to its moment and writes.
pub mod Swept
pub mod SweptInTurn
pub mod SweptNamed
pub mod SweptReads
