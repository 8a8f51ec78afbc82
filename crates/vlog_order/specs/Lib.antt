pub mod inner
pub mod Named
