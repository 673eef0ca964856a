pub mod Spans
pub mod Unique
