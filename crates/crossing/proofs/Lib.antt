pub mod Capped
pub mod Enough
pub mod Numbers
pub mod Updates
pub mod Words
