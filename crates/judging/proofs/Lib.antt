pub mod Before
pub mod Distinct
pub mod Places
pub mod Walk
