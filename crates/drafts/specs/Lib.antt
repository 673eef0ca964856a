pub mod Places
pub mod Draft
