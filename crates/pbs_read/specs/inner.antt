pub mod DeclDescent
pub mod TextDescent
