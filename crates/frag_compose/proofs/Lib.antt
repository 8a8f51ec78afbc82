pub mod Rising
pub mod Lists
pub mod Leaves
pub mod Composing
pub mod Following
