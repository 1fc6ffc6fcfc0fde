-- What reads of the tables answer, one after another.
pub mod Asked
pub mod BucketNumbers
pub mod ChargePages
pub mod HandedOn
pub mod InTurn
pub mod Repeating
pub mod SortedNumbers
pub mod Told
