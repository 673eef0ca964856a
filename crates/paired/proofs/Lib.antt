pub mod Listed
pub mod Placing
pub mod Gathered
pub mod Sorting
