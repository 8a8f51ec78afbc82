mod Descends
mod MarkLemmas
pub mod TermExits
pub mod ExprExits
