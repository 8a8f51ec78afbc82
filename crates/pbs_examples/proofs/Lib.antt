pub mod Tables
pub mod Examples
pub mod Faults
pub mod Sound
pub mod Resets
