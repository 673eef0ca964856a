pub mod Dangling
pub mod Between
pub mod Linked
pub mod Pushed
pub mod Filled
pub mod Counted
pub mod Examples
