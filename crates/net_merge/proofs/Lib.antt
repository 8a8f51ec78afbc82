pub mod Merging
pub mod Taking
