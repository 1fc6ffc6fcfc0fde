pub mod Terms
pub mod Standing
pub mod Adding
pub mod Redeeming
pub mod Histories
pub mod Laws
