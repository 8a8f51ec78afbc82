pub mod Chains
pub mod Flat
pub mod Marks
