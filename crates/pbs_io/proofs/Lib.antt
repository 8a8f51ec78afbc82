pub mod WrittenLemmas
pub mod ReadLemmas
pub mod CallLemmas
pub mod CabinetLemmas
pub mod RefusalLemmas
pub mod LoadLemmas
