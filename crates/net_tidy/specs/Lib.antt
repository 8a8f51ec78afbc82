pub mod Follows
pub mod Tidy
pub mod Forms
pub mod Keys
pub mod Pools
pub mod inner
