pub mod Cases
pub mod Heads
pub mod Told
