pub mod Forms
pub mod Naming
pub mod Numbers
pub mod Reach
pub mod StarsAndScopes
