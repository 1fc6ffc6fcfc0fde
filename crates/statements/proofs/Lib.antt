pub mod Beginnings
pub mod MonthLemmas
