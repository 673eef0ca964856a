pub mod Rowed
pub mod Placing
pub mod Forked
pub mod Passing
