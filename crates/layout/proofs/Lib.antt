pub mod Copied
pub mod Whole
pub mod Chained
pub mod Unique
