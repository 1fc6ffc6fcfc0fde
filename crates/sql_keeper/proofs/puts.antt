-- Rows that are put one after another, over what was there.
pub mod CountedPuts
pub mod Groups
pub mod KeptGroups
pub mod KeptKinds
pub mod NewCharges
pub mod NewGroups
pub mod Numbers
pub mod Overlays
pub mod Puts
pub mod Redeemed
pub mod RowsAdded
