pub mod Mode
pub mod Span
pub mod Updates
