pub mod Bits
pub mod Coding
pub mod Running
pub mod Growing
pub mod Unread
pub mod Decoding
pub mod Coded
pub mod Seated
pub mod TellingLemmas
pub mod Copying
pub mod Shared
pub mod Staged
pub mod Encoded
pub mod Counting
pub mod Wholes
mod Examples
