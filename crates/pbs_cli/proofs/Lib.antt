pub mod JobLemmas
pub mod FirstLemmas
pub mod NumberLemmas
pub mod RunLemmas
pub mod SoakLemmas
pub mod TopLemmas
pub mod OneRun
pub mod OneAnswer
