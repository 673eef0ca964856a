pub mod Tables
pub mod Held
pub mod Pairs
