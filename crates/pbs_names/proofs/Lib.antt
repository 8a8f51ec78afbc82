pub mod BareForms
pub mod NameLemmas
