mod DeclExits
mod TextExits
mod AnswerLemmas
