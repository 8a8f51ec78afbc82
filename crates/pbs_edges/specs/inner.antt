pub mod Rounds
pub mod ByNumber
pub mod Counting
pub mod Ending
