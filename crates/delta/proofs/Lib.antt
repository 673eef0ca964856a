pub mod Summed
pub mod Told
pub mod Ruled
