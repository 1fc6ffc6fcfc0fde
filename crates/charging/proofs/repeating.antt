-- What is kept of an accepted command stays, so that a repeat is answered by it.
pub mod RedeemedCodes
pub mod Repeated
pub mod VouchersStay
