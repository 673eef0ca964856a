pub mod Asked
pub mod Judging
