pub mod Left
pub mod Numbers
