pub mod Merges
pub mod inner
