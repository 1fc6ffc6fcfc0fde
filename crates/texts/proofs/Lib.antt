pub mod Bounds
pub mod Loop
pub mod Steps
pub mod LineLemmas
pub mod PieceLemmas
