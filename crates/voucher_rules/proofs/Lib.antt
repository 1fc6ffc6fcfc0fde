pub mod Exact
pub mod StandingLemmas
pub mod Examples
