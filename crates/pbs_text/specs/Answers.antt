-- What a text stands for, and the refusals by rules 1 to 4.
use Rattle.std.specs.Prelude.{ℕ, ◌≤◌, ◌<◌, ◌≡◌, List, length, Result, Ok, Err}
use Rattle.pbs_base.specs.declared.refusal.Span.{Span}
use Rattle.pbs_base.specs.declared.refusal.Refusal.{Refusal}
use Rattle.pbs_ast.specs.declared.syntax.Spec.{Spec}
use Rattle.pbs_text.specs.declared.token.Token.{Token}
use Rattle.pbs_text.specs.declared.fail.ReadSpec.{ReadSpec}
use Rattle.pbs_text.specs.declared.fail.ReadSpec.TheVariants.{Memory, Refused}
use Rattle.pbs_text.specs.Grammar.{TextPhrase}
use Rattle.pbs_text.specs.Trees.{text_spec}
use Rattle.pbs_text.specs.Refusals.{refusal, IsRead, IsRefused}
use Rattle.pbs_text.specs.Lexing.{tokens}

-- rule 1
abbrev pub IsShort : List ℕ → Type 0
IsShort bytes = length bytes ≤ 1048576

-- the text stands for this specification, whose boxes are at one place
pub record StandsFor (bytes : List ℕ) (spec : Spec) : Type 0 where
  pub short : IsShort bytes
  pub found : List Token
  pub found_is : tokens bytes ≡ Ok found
  pub phrase : TextPhrase
  pub is_read : IsRead found phrase
  pub spec_is : spec ≡ text_spec bytes phrase

-- this is the first rule of 1 to 4 that the text breaks, and its place
pub data IsRefusedBy (bytes : List ℕ) : Refusal → Type 0 where
  ByLength : 1048576 < length bytes → IsRefusedBy bytes (refusal 1 (record { start = 1048576; end = 1048577 }))
  ByToken : IsShort bytes → (at : Span) → tokens bytes ≡ Err at → IsRefusedBy bytes (refusal 2 at)
  ByGrammar : IsShort bytes → (found : List Token) → tokens bytes ≡ Ok found → (r : Refusal)
      → IsRefused (length bytes) found r → IsRefusedBy bytes r

-- what the definition says of a text
abbrev pub Answers : List ℕ → Result Spec Refusal → Type 0
Answers bytes (Ok spec) = StandsFor bytes spec
Answers bytes (Err r) = IsRefusedBy bytes r

-- the text is refused so, unless memory ran out
abbrev pub Refuses : List ℕ → ReadSpec → Type 0
Refuses bytes Memory = Unit {0}
Refuses bytes (Refused r) = IsRefusedBy bytes r

-- it is this refusal, unless memory ran out
abbrev pub IsThe : Refusal → ReadSpec → Type 0
IsThe r Memory = Unit {0}
IsThe r (Refused q) = q ≡ r
