pub mod Twins
pub mod Groups
pub mod Plans
pub mod inner
pub mod Runs
pub mod Sharing
