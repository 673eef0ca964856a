pub mod Words
pub mod Found
pub mod KeyWords
pub mod InTurn
pub mod Rows
pub mod Edges
pub mod HeldWords
pub mod Laid
