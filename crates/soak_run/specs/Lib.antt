pub mod Soaks
pub mod inner
