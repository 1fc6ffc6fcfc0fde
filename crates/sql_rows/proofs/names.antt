-- Names as texts, read and put.
pub mod NamedTexts
pub mod NamesPut
pub mod Periods
