-- Each account by its own history, and its buckets in the order of their numbers.
pub mod Apart
pub mod BalanceOrder
pub mod ByNumber
pub mod NeverOpened
