-- What is said where the bytes of a netlist aren't cut into tokens.
use Rattle.std.specs.Prelude.{ℕ, ◌≡◌, List, Err}
use Rattle.pbs_base.specs.declared.refusal.Span.{Span}
use Rattle.vlog_text.specs.Lexing.{tokens}
use Rattle.vlog_text.specs.Refusing.{refusal}
use Rattle.vlog_text.specs.declared.fail.VlogFail.{VlogFail}
use Rattle.vlog_text.specs.declared.fail.VlogFail.TheVariants.{Refused, Memory}

-- rule 2 is broken first at this span, unless memory ran out
abbrev pub StopsLexing : List ℕ → VlogFail → Type 0
StopsLexing bytes Memory = Unit {0}
StopsLexing bytes (Refused r) = (at : Span) × (r ≡ refusal 2 at) × (tokens bytes ≡ Err at)
