pub mod ByRow
pub mod Cut
pub mod HasRow
pub mod Kept
