pub mod Made
pub mod Images
pub mod Marks
pub mod Shrunk
pub mod Assembled
