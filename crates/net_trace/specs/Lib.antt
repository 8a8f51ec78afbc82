pub mod Outcomes
pub mod Taken
pub mod Endings
pub mod inner
