pub mod Examples
pub mod LineLaws
pub mod Room
