pub mod Canonical
pub mod Unspanned
pub mod Written
