pub mod Lexing
pub mod Grammar
pub mod Trees
pub mod Nesting
pub mod Refusals
pub mod Answers
pub mod places
