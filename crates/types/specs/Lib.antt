pub mod Lent
pub mod Range
pub mod State
