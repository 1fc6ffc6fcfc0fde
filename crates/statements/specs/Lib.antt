pub mod Faults
pub mod Columns
pub mod Lines
pub mod Months
pub mod Records
pub mod Texts
pub mod Rows
pub mod Charges
