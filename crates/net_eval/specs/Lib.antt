pub mod Assignments
pub mod States
pub mod Simulated
pub mod Readers
pub mod Counts
pub mod inner
