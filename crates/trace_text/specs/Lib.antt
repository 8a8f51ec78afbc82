pub mod Reports
pub mod Held
pub mod HeldBytes
pub mod Traces
pub mod Headers
pub mod States
pub mod Steps
pub mod inner
