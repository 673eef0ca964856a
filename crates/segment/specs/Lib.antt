pub mod Faults
pub mod Words
