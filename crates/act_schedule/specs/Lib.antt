pub mod Levels
pub mod Circuits
pub mod inner
