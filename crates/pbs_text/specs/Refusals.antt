-- The refusals by rules 3 and 4, as sentences about the texts of the grammar.
use Rattle.std.specs.Prelude.{ℕ, ◌≤◌, Bool, true, false, List, [], ◌∷◌, ◌++◌, length, ◌≡◌, IsTrue, Result, Ok, Err}
use Rattle.pbs_base.specs.declared.refusal.Refusal.{Refusal}
use Rattle.pbs_text.specs.declared.token.Token.{Token}
use Rattle.pbs_text.specs.declared.token.TokenKind.{TokenKind}
use Rattle.pbs_text.specs.declared.token.TokenKind.TheVariants.{OpenRound, Tilde}
use Rattle.pbs_text.specs.Grammar.{TextPhrase, text_tokens, IsText, Begins}
use Rattle.pbs_text.specs.Nesting.{opened}
use Rattle.pbs_base.specs.declared.refusal.Span.{Span}
use Rattle.pbs_base.specs.declared.refusal.Subject.TheVariants.{Spec}

abbrev pub refusal : ℕ → Span → Refusal
refusal rule span = record { subject = Spec; rule = rule; span = span }

-- the empty span at a place
abbrev pub point : ℕ → Span
point n = record { start = n; end = n }

-- no text of the grammar begins with the tokens up to and including this one
abbrev pub CannotStand : List Token → Token → Type 0
CannotStand taken t = ¬ Begins (taken ++ t ∷ [])

abbrev pub opens : TokenKind → Bool
opens Tilde = true
opens OpenRound = true
opens _ = false

-- some text does, and the token is a `(` or a `~` before which 64 are open
pub record IsTooDeep (taken : List Token) (t : Token) : Type 0 where
  pub begins : Begins (taken ++ t ∷ [])
  pub opens_one : IsTrue (opens t.kind)
  pub deep : 64 ≤ length (opened taken)

-- no token is of either kind
abbrev pub NoneStops : List Token → Type 0
NoneStops ts = (a b : List Token) (t : Token) → ts ≡ a ++ t ∷ b → ¬ CannotStand a t × ¬ IsTooDeep a t

-- the tokens break rule 3 or 4 there, and nowhere before; the text has `end` bytes
pub data IsRefused (end : ℕ) (ts : List Token) : Refusal → Type 0 where
  AtToken : (taken rest : List Token) (t : Token) → ts ≡ taken ++ t ∷ rest → NoneStops taken → CannotStand taken t
      → IsRefused end ts (refusal 3 t.span)
  AtDepth : (taken rest : List Token) (t : Token) → ts ≡ taken ++ t ∷ rest → NoneStops taken → IsTooDeep taken t
      → IsRefused end ts (refusal 4 t.span)
  AtEnd : NoneStops ts → Begins ts → ¬ IsText ts → IsRefused end ts (refusal 3 (point end))

-- the tokens are this text, and break neither rule
pub record IsRead (ts : List Token) (p : TextPhrase) : Type 0 where
  pub text : text_tokens p ≡ ts
  pub shallow : NoneStops ts

-- what an answer says of the tokens
abbrev pub Says : ℕ → List Token → Result TextPhrase Refusal → Type 0
Says end ts (Ok p) = IsRead ts p
Says end ts (Err r) = IsRefused end ts r
