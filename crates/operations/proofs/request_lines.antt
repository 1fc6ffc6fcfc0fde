-- Lines of requests that are answered.
pub mod Answered
pub mod Carried
pub mod Ended
pub mod HeldLines
pub mod OnceLemmas
pub mod Parts
pub mod Reached
pub mod SoFar
pub mod Streams
pub mod Texts
