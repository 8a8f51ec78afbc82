pub mod Lexes
pub mod Found
pub mod Decimals
