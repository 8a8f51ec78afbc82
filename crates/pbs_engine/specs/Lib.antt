pub mod Accepted
pub mod inner
pub mod Migrated
pub mod Right
pub mod Outcomes
pub mod Soaked
