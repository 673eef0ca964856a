pub mod Counts
pub mod Enough
pub mod Good
pub mod Next
pub mod Scan
pub mod Whole
