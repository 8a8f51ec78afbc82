pub mod Walking
pub mod Filling
pub mod Standing
pub mod Halves
pub mod Tabling
pub mod Naming
