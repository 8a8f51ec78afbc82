mod WaitLists
mod Tests
mod Steps
mod Waking
mod Ordering
mod Marking
mod LeftOut
pub mod Placing
