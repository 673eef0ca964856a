pub mod Cases
pub mod SortLaws
pub mod RowOrder
pub mod Sums
pub mod SetLaws
pub mod HasAt
pub mod Tests
pub mod SortMap
