pub mod Graph
pub mod Area
