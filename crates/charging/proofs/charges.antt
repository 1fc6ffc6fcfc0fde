-- What a use is charged, what pays for it, and the sums.
pub mod BoundedCharges
pub mod BucketSums
pub mod Collecting
pub mod Coverable
pub mod Paying
pub mod SharesTold
pub mod Taking
