pub mod ProgramLemmas
pub mod ArgumentLines
pub mod MomentWords
