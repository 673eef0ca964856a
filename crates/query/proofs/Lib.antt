pub mod Telling
pub mod Pruned
pub mod Asking
