pub mod Walks
pub mod Finishes
pub mod Phrases
pub mod Nesting
pub mod Exact
pub mod OneAnswer
