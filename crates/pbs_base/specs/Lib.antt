pub mod formers
pub mod Entries
pub mod Words
