pub mod Pushed
pub mod Invariant
pub mod Growth
