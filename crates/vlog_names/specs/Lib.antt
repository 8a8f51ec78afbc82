pub mod inner
pub mod Names
pub mod Numbers
