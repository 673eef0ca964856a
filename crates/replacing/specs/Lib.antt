pub mod Stored
pub mod Lent
