-- What a grant holds, has prices for and is sure to pay.
pub mod GrantPrices
pub mod GrantsHeld
pub mod GrantsLeft
pub mod Guaranteed
pub mod OpenGrants
pub mod Opened
pub mod PricedRows
