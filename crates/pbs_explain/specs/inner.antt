pub mod Charts
pub mod Checked
