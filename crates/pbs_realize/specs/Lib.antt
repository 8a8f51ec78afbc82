pub mod inner
pub mod Codes
pub mod Realizes
