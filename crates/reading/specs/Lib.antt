pub mod Numbers
pub mod Fields
pub mod Lists
pub mod Lines
pub mod Kept
pub mod LongLines
