pub mod Words
pub mod inner
pub mod Answers
