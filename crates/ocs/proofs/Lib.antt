pub mod EndLemmas
pub mod Buffers
pub mod Versions
