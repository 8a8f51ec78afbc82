pub mod Meaning
pub mod Alike
pub mod Vectors
pub mod Growing
pub mod Answering
pub mod Disjoint
pub mod Leasts
