pub mod ItemsLeft
