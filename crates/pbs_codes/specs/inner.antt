pub mod Rooms
pub mod Signatures
pub mod Leading
