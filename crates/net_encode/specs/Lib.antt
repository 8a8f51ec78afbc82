pub mod Codes
pub mod Encodings
pub mod inner
