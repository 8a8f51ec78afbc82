pub mod Lexed
pub mod inner
