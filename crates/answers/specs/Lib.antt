pub mod Answer
pub mod Kinds
pub mod Updates
pub mod Verdict
