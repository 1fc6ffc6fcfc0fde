-- The rows of an account that a keeper keeps between its calls.
pub mod KeptRows
pub mod RowsOver
pub mod SeenRows
pub mod SeenFirst
pub mod FirstOver
