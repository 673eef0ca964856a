pub mod Raising
pub mod Written
pub mod Rooted
