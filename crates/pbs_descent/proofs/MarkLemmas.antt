-- A mark and its kind of token determine one another.
use Rattle.std.proofs.Common.{◌≡◌, List, ◌∷◌, Some, sym, ap, ◌∙◌}
use Rattle.pbs_text.specs.declared.token.Token.{Token}
use Rattle.pbs_text.specs.declared.token.TokenKind.{TokenKind}
use Rattle.pbs_text.specs.declared.token.TokenKind.TheVariants.{Name, SpecWord, MainWord, AbortWord, ThenWord}
use Rattle.pbs_text.specs.declared.token.TokenKind.TheVariants.{Semicolon, Comma, Equals, OpenCurly, CloseCurly}
use Rattle.pbs_text.specs.declared.token.TokenKind.TheVariants.{OpenRound, CloseRound, OpenSquare, CloseSquare, Bar}
use Rattle.pbs_text.specs.declared.token.TokenKind.TheVariants.{Star, Plus, Question, Ampersand, Colon}
use Rattle.pbs_descent.specs.declared.mark.Mark.{Mark}
use Rattle.pbs_descent.specs.declared.mark.Mark.TheVariants.{AName, Spec, Main, Abort, Then, SemicolonMark, CommaMark}
use Rattle.pbs_descent.specs.declared.mark.Mark.TheVariants.{EqualsMark, OpenCurlyMark, CloseCurlyMark, OpenRoundMark}
use Rattle.pbs_descent.specs.declared.mark.Mark.TheVariants.{CloseRoundMark, OpenSquareMark, CloseSquareMark, BarMark}
use Rattle.pbs_descent.specs.declared.mark.Mark.TheVariants.{StarMark, PlusMark, QuestionMark, AmpersandMark, ColonMark}
use Rattle.pbs_text.specs.Grammar.{token}
use Rattle.pbs_descent.specs.Marks.{kind_of, mark_of}

kind_is : (k : TokenKind) (m : Mark) → Some m ≡ mark_of k → kind_of m ≡ k
kind_is Name m e = let same : m ≡ AName = cc in ap kind_of same
kind_is SpecWord m e = let same : m ≡ Spec = cc in ap kind_of same
kind_is MainWord m e = let same : m ≡ Main = cc in ap kind_of same
kind_is AbortWord m e = let same : m ≡ Abort = cc in ap kind_of same
kind_is ThenWord m e = let same : m ≡ Then = cc in ap kind_of same
kind_is Semicolon m e = let same : m ≡ SemicolonMark = cc in ap kind_of same
kind_is Comma m e = let same : m ≡ CommaMark = cc in ap kind_of same
kind_is Equals m e = let same : m ≡ EqualsMark = cc in ap kind_of same
kind_is OpenCurly m e = let same : m ≡ OpenCurlyMark = cc in ap kind_of same
kind_is CloseCurly m e = let same : m ≡ CloseCurlyMark = cc in ap kind_of same
kind_is OpenRound m e = let same : m ≡ OpenRoundMark = cc in ap kind_of same
kind_is CloseRound m e = let same : m ≡ CloseRoundMark = cc in ap kind_of same
kind_is OpenSquare m e = let same : m ≡ OpenSquareMark = cc in ap kind_of same
kind_is CloseSquare m e = let same : m ≡ CloseSquareMark = cc in ap kind_of same
kind_is Bar m e = let same : m ≡ BarMark = cc in ap kind_of same
kind_is Star m e = let same : m ≡ StarMark = cc in ap kind_of same
kind_is Plus m e = let same : m ≡ PlusMark = cc in ap kind_of same
kind_is Question m e = let same : m ≡ QuestionMark = cc in ap kind_of same
kind_is Ampersand m e = let same : m ≡ AmpersandMark = cc in ap kind_of same
kind_is Colon m e = let same : m ≡ ColonMark = cc in ap kind_of same
kind_is _ m e = absurd (cc)

-- the first token is of the kind that is asked for
pub marked : (old rest : List Token) (t : Token) (m mark : Mark) → old ≡ t ∷ rest → Some m ≡ mark_of t.kind → m ≡ mark
    → old ≡ token (kind_of mark) t.span ∷ rest
marked old rest t m mark e f same = e ∙ ap (λ k. token k t.span ∷ rest)
    (sym (ap kind_of (sym same) ∙ kind_is t.kind m f))
