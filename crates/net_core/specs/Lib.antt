pub mod Rows
pub mod Circuits
pub mod Building
pub mod Unread
pub mod Plans
pub mod Runs
