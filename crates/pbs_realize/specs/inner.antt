pub mod NameWords
pub mod Shrinking
pub mod Coding
