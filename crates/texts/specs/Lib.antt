pub mod Written
pub mod Decimal
pub mod CommaList
pub mod Text
