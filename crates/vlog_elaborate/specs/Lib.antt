pub mod Elaborated
pub mod inner
