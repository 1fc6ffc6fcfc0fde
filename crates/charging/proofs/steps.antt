-- What each step of a ledger keeps, every decision and every history keep.
pub mod Credited
pub mod Grows
pub mod KeptDecisions
pub mod KeptHistories
pub mod Recorded
pub mod Sound
pub mod Steps
pub mod StepsAt
