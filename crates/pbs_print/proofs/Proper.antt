-- Tokens of a text, together with what is open.
use Rattle.std.proofs.Common.{◌≡◌, ℕ, List, [], ◌∷◌, false, arith}
use Rattle.pbs_base.specs.declared.refusal.Span.{Span}
use Rattle.pbs_text.specs.declared.token.Token.{Token}
use Rattle.pbs_text.specs.Grammar.{token, Numeral, ZeroNumeral, OneNumeral, TwoNumeral, DigitNumeral, LongNumeral}
use Rattle.pbs_text.specs.Grammar.{numeral_kind}
use Rattle.pbs_text.specs.Trees.{word_at, numeral_value}
use Rattle.pbs_lex.proofs.Found.{IsSmall, FoundAs, AreFound}
use Rattle.pbs_text.specs.Nesting.{Opened, closed, behind}
use Rattle.pbs_grammar.proofs.Nesting.{is_over, Shallow}

abbrev pub Proper : List ℕ → List Opened → List Token → Type 0
Proper bytes s [] = Unit {0}
Proper bytes s (t ∷ ts) =
    (is_over t.kind s ≡ false) × FoundAs (word_at bytes t.span) t.kind × Proper bytes (behind t.kind s) ts

pub are_proper : (bytes : List ℕ) (ts : List Token) (s : List Opened) → Shallow s ts → AreFound bytes ts
    → Proper bytes s ts
are_proper bytes [] s h f = tt
are_proper bytes (t ∷ ts) s h f = (h.0, f.0, are_proper bytes ts (behind t.kind s) h.1 f.1)

pub proper-number : (bytes : List ℕ) (m : Numeral) (at : Span) (z : List Token) (s : List Opened)
    → Proper bytes s (token (numeral_kind m) at ∷ z) → IsSmall (numeral_value m) × Proper bytes (closed s) z
proper-number bytes ZeroNumeral at z s h = (omega arith, h.2)
proper-number bytes OneNumeral at z s h = (omega arith, h.2)
proper-number bytes TwoNumeral at z s h = (omega arith, h.2)
proper-number bytes (DigitNumeral n) at z s h = (omega arith, h.2)
proper-number bytes (LongNumeral n) at z s h = (h.1, h.2)
