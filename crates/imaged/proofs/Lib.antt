pub mod Pairing
pub mod Closing
pub mod Chained
pub mod Unsorted
pub mod Whole
