pub mod Storing
pub mod Whole
pub mod Unique
