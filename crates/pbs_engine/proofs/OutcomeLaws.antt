-- A text on a trace has one outcome.
use Rattle.std.proofs.Common.{◌≡◌, ℕ, List, length, sym, ap, ◌∙◌}
use Rattle.pbs_base.specs.declared.refusal.Refusal.{Refusal}
use Rattle.pbs_ast.specs.declared.syntax.Spec.{Spec}
use Rattle.trace_text.specs.Headers.{Trace, NoHeader, Traced, trace}
use Rattle.net_trace.specs.Outcomes.{Outcome, refused, ended}
use Rattle.pbs_engine.specs.Accepted.{Breaks, IsAccepted}
use Rattle.pbs_engine.specs.Outcomes.{TextGives, OfRefused, OfHeader, OfRows, input_ports, due_rows}

-- the laws of what is run
pub record OneRun : Type 0 where
  pub spec : (text : List ℕ) (a b : Spec) → IsAccepted text a → IsAccepted text b → a ≡ b
  pub refusal : (text : List ℕ) (r s : Refusal) → Breaks text r → Breaks text s → r ≡ s
  pub apart : (text : List ℕ) (a : Spec) (r : Refusal) → IsAccepted text a → Breaks text r → ⊥

-- the outcome of a specification on a trace
abbrev outcome_of : Spec → Trace → Outcome
outcome_of spec (NoHeader r) = refused r
outcome_of spec (Traced read) = ended (due_rows spec read.entries) (length read.entries) read.ending

-- the one outcome of a specification on the text of a trace
abbrev outcome : List ℕ → Spec → Outcome
outcome bytes spec = outcome_of spec (trace (input_ports spec) bytes)

-- a text that is run has that outcome
run_gives : OneRun → (text bytes : List ℕ) (spec : Spec) (o : Outcome) → IsAccepted text spec → TextGives text bytes o
    → o ≡ outcome bytes spec
run_gives one text bytes spec o run (OfRefused {r} a) = absurd (one.apart text spec r run a)
run_gives one text bytes spec o run (OfHeader other {r} run_other is) =
    ap (outcome_of other) (sym is) ∙ ap (outcome bytes) (one.spec text other spec run_other run)
run_gives one text bytes spec o run (OfRows other run_other read is) =
    ap (outcome_of other) (sym is) ∙ ap (outcome bytes) (one.spec text other spec run_other run)

-- a text that isn't run is refused
refused_gives : OneRun → (text bytes : List ℕ) (r : Refusal) (o : Outcome) → Breaks text r → TextGives text bytes o
    → o ≡ refused r
refused_gives one text bytes r o a (OfRefused b) = ap refused (one.refusal text _ r b a)
refused_gives one text bytes r o a (OfHeader spec run is) = absurd (one.apart text spec r run a)
refused_gives one text bytes r o a (OfRows spec run read is) = absurd (one.apart text spec r run a)

pub one_gives : OneRun → (text bytes : List ℕ) (o p : Outcome) → TextGives text bytes o → TextGives text bytes p → o ≡ p
one_gives one text bytes o p (OfRefused {r} a) q = sym (refused_gives one text bytes r p a q)
one_gives one text bytes o p (OfHeader spec run is) q =
    run_gives one text bytes spec o run (OfHeader spec run is) ∙ sym (run_gives one text bytes spec p run q)
one_gives one text bytes o p (OfRows spec run read is) q =
    run_gives one text bytes spec o run (OfRows spec run read is) ∙ sym (run_gives one text bytes spec p run q)
