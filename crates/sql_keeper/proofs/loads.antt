-- What is loaded of an account: its rows that may still change, and what is held.
pub mod BookPlaces
pub mod CountedRows
pub mod DeadRows
pub mod GroupRows
pub mod HeldAlong
pub mod HoldRuns
pub mod LiveGroups
pub mod LiveRows
pub mod LoadedAlone
