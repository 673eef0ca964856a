pub mod Front
pub mod Spans
