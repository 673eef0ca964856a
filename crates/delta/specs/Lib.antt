pub mod Bare
pub mod Changed
