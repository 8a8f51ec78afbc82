pub mod Edges
pub mod Walks
pub mod inner
pub mod Listed
pub mod Effective
pub mod Found
pub mod Codes
