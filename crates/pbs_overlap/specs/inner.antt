pub mod Steps
pub mod Stepping
pub mod Joints
pub mod Search
pub mod Lowest
pub mod Planning
