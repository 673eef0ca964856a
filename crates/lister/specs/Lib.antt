pub mod Standing
pub mod Lent
pub mod Listing
pub mod Room
