pub mod Explained
pub mod Firsts
pub mod inner
