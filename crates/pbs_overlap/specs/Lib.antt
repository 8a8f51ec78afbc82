pub mod Ranges
pub mod inner
pub mod Told
pub mod Rules
