pub mod PairSearch
pub mod Sides
