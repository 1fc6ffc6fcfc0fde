-- What is tested and committed of a change and of a voucher.
pub mod Added
pub mod Changed
pub mod Commits
pub mod Committed
pub mod GrantsWritten
pub mod OwnTexts
pub mod Tested
pub mod Transacted
pub mod Typed
pub mod Whole
pub mod Writable
