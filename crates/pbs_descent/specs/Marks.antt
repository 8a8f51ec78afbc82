-- The kinds of tokens that a rule of the grammar asks for by themselves.
use Rattle.std.specs.Prelude.{Option, Some, None}
use Rattle.pbs_text.specs.declared.token.TokenKind.{TokenKind}
use Rattle.pbs_text.specs.declared.token.TokenKind.TheVariants.{Name, SpecWord, MainWord, AbortWord, ThenWord}
use Rattle.pbs_text.specs.declared.token.TokenKind.TheVariants.{Semicolon, Comma, Equals, OpenCurly, CloseCurly}
use Rattle.pbs_text.specs.declared.token.TokenKind.TheVariants.{OpenRound, CloseRound, OpenSquare, CloseSquare, Bar}
use Rattle.pbs_text.specs.declared.token.TokenKind.TheVariants.{Star, Plus, Question, Ampersand, Colon}
use Rattle.pbs_descent.specs.declared.mark.Mark.{Mark}
use Rattle.pbs_descent.specs.declared.mark.Mark.TheVariants.{AName, Spec, Main, Abort, Then, SemicolonMark, CommaMark}
use Rattle.pbs_descent.specs.declared.mark.Mark.TheVariants.{EqualsMark, OpenCurlyMark, CloseCurlyMark, OpenRoundMark}
use Rattle.pbs_descent.specs.declared.mark.Mark.TheVariants.{CloseRoundMark, OpenSquareMark, CloseSquareMark, BarMark}
use Rattle.pbs_descent.specs.declared.mark.Mark.TheVariants.{StarMark, PlusMark, QuestionMark, AmpersandMark, ColonMark}

abbrev pub kind_of : Mark → TokenKind
kind_of AName = Name
kind_of Spec = SpecWord
kind_of Main = MainWord
kind_of Abort = AbortWord
kind_of Then = ThenWord
kind_of SemicolonMark = Semicolon
kind_of CommaMark = Comma
kind_of EqualsMark = Equals
kind_of OpenCurlyMark = OpenCurly
kind_of CloseCurlyMark = CloseCurly
kind_of OpenRoundMark = OpenRound
kind_of CloseRoundMark = CloseRound
kind_of OpenSquareMark = OpenSquare
kind_of CloseSquareMark = CloseSquare
kind_of BarMark = Bar
kind_of StarMark = Star
kind_of PlusMark = Plus
kind_of QuestionMark = Question
kind_of AmpersandMark = Ampersand
kind_of ColonMark = Colon

abbrev pub mark_of : TokenKind → Option Mark
mark_of Name = Some AName
mark_of SpecWord = Some Spec
mark_of MainWord = Some Main
mark_of AbortWord = Some Abort
mark_of ThenWord = Some Then
mark_of Semicolon = Some SemicolonMark
mark_of Comma = Some CommaMark
mark_of Equals = Some EqualsMark
mark_of OpenCurly = Some OpenCurlyMark
mark_of CloseCurly = Some CloseCurlyMark
mark_of OpenRound = Some OpenRoundMark
mark_of CloseRound = Some CloseRoundMark
mark_of OpenSquare = Some OpenSquareMark
mark_of CloseSquare = Some CloseSquareMark
mark_of Bar = Some BarMark
mark_of Star = Some StarMark
mark_of Plus = Some PlusMark
mark_of Question = Some QuestionMark
mark_of Ampersand = Some AmpersandMark
mark_of Colon = Some ColonMark
mark_of _ = None
