pub mod Noting
pub mod Entries
pub mod KindLemmas
pub mod RuleLemmas
pub mod Numbering
pub mod Standings
