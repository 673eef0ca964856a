pub mod Lists
pub mod Sort
pub mod Sets
