-- What is answered for a text that has no tokens.
use Rattle.std.specs.Prelude.{ℕ, List, ◌≡◌, Err}
use Rattle.pbs_base.specs.declared.refusal.Span.{Span}
use Rattle.pbs_text.specs.declared.fail.ReadSpec.{ReadSpec}
use Rattle.pbs_text.specs.declared.fail.ReadSpec.TheVariants.{Memory, Refused}
use Rattle.pbs_text.specs.Lexing.{tokens}
use Rattle.pbs_text.specs.Refusals.{refusal}

-- rule 2 is broken first at this span, unless memory ran out
abbrev pub StopsLexing : List ℕ → ReadSpec → Type 0
StopsLexing bytes Memory = Unit {0}
StopsLexing bytes (Refused r) = (at : Span) × (r ≡ refusal 2 at) × (tokens bytes ≡ Err at)
