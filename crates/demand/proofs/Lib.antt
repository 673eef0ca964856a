pub mod Passes
pub mod Acceptance
pub mod DemandThree
pub mod Example
pub mod Unchanged
pub mod Numbers
