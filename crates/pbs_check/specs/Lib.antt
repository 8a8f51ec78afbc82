pub mod Checked
pub mod inner
pub mod Declaring
pub mod Least
pub mod Recursion
pub mod Using
