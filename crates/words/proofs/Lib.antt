pub mod PartLaws
pub mod TableLaws
pub mod PutMore
pub mod Beside
