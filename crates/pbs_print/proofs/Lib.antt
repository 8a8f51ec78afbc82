pub mod JoinedPieces
mod TextPieces
mod TermPieces
mod TermPhrases
mod Proper
mod TermsRead
mod ExprPieces
mod ExprPhrases
mod ExprsRead
mod LinePieces
mod LinesRead
mod LinePhrases
mod SecondVersion
mod Whole
pub mod Plain
mod Examples
