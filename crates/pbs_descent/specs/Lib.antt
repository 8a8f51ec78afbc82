pub mod Marks
pub mod Descent
