pub mod Told
pub mod Needs
pub mod Updates
