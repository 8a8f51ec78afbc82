pub mod Diagrams
pub mod Choices
pub mod inner
pub mod Members
pub mod Least
