-- What the small functions of the descent found.
use Rattle.std.proofs.Common.{◌≡◌, ℕ, List, ◌∷◌, Some, refl, sym, ap, ◌∙◌}
use Rattle.std.specs.Prelude.{option_map}
use Rattle.pbs_text.specs.declared.token.Token.{Token}
use Rattle.pbs_text.specs.declared.token.TokenKind.{TokenKind}
use Rattle.pbs_text.specs.declared.token.TokenKind.TheVariants.{Zero, One, Two, Digit, Number}
use Rattle.pbs_text.specs.Grammar.{token, Numeral, ZeroNumeral, OneNumeral, TwoNumeral, DigitNumeral, LongNumeral}
use Rattle.pbs_text.specs.Grammar.{numeral_kind}
use Rattle.pbs_text.specs.Trees.{numeral_value}
use Rattle.pbs_text.specs.places.Steps.{numeral_of}
use Rattle.pbs_descent.specs.Descent.{TakesNumeral}

record IsNumeral (k : TokenKind) (value : ℕ) : Type 0 where
  numeral : Numeral
  kind_is : numeral_kind numeral ≡ k
  value_is : value ≡ numeral_value numeral

is_numeral : (k : TokenKind) (value : ℕ) → Some value ≡ option_map numeral_value (numeral_of k) → IsNumeral k value
is_numeral Zero value e = record { numeral = ZeroNumeral; kind_is = refl; value_is = cc }
is_numeral One value e = record { numeral = OneNumeral; kind_is = refl; value_is = cc }
is_numeral Two value e = record { numeral = TwoNumeral; kind_is = refl; value_is = cc }
is_numeral (Digit n) value e = record { numeral = DigitNumeral n; kind_is = refl; value_is = cc }
is_numeral (Number n) value e = record { numeral = LongNumeral n; kind_is = refl; value_is = cc }
is_numeral _ value e = absurd (cc)

pub numeral_found : (old rest : List Token) (t : Token) (value : ℕ) → old ≡ t ∷ rest
    → Some value ≡ option_map numeral_value (numeral_of t.kind) → TakesNumeral old value t.span rest
numeral_found old rest t value e f =
    let n = is_numeral t.kind value f in
    record { numeral = n.numeral; value_is = n.value_is; taken = e ∙ ap (λ k. token k t.span ∷ rest) (sym n.kind_is) }
