pub mod Agreeing
pub mod Assigning
pub mod Simulating
pub mod Chaining
pub mod Flattening
pub mod Marking
pub mod Changing
pub mod Waking
