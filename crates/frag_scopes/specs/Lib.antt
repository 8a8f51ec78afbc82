pub mod Aborts
