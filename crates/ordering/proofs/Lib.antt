pub mod Found
pub mod Stretches
pub mod Called
