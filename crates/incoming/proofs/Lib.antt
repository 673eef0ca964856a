pub mod Staged
pub mod Counts
pub mod Chains
pub mod Answered
pub mod Readied
