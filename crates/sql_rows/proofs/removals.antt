-- What the texts that remove rows do.
pub mod RemoveAllowance
pub mod RemoveCovered
pub mod RemoveGrantBook
pub mod RemoveHolds
