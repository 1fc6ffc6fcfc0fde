pub mod Ends
pub mod Faults
pub mod Told
pub mod Runs
pub mod Replayed
pub mod Terminal
