pub mod Circles
pub mod Facts
pub mod Links
pub mod Searching
pub mod Stages
pub mod Truth
pub mod Twices
pub mod Walking
