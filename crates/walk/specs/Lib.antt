pub mod Met
pub mod Kept
