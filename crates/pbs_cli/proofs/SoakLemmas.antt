-- How a soak ends.
use Rattle.std.proofs.Common.{◌≡◌, ◌≤◌, ℕ, [], Some, Result, Ok, Err, refl, arith}
use Rattle.pbs_base.specs.declared.refusal.Refusal.{Refusal}
use Rattle.pbs_io.specs.Outside.{ShelfState, SinkState}
use Rattle.pbs_io.specs.Refusal.{refusal_line}
use Rattle.net_trace.specs.Endings.{Wrote, lines_with}
use Rattle.net_trace.specs.declared.fail.RunFail.{RunFail}
use Rattle.net_trace.specs.declared.fail.RunFail.TheVariants as fails
use Rattle.net_trace.proofs.EndingLemmas.{took_few, took_little}
use Rattle.pbs_cli.specs.Words.{Soak}
use Rattle.pbs_cli.specs.Answers.{NeedsFile, Soaked}
use Rattle.pbs_cli.specs.inner.Parts.{AloneEnds, Ends, EndsAlone, EndsCommand, Finishes, WritesLine}
use Rattle.pbs_cli.specs.declared.status.Status.{Status}
use Rattle.pbs_cli.specs.declared.status.Status.TheVariants.{Accepted, Refused, Usage, ReadFault, WriteFault, Memory}
use Rattle.pbs_cli.proofs.RunLemmas.{at_once, lines_cut, refusal_cut, refused_whole, whole}

module _ (n : ℕ) (a : ShelfState) (k m q : SinkState) where
  abbrev Answered : SinkState → Status → Type 0
  Answered x status = Ends (Soak n) a a k x status

  line_ends : (r : Refusal) (status : Status) → Wrote (lines_with (Soaked n) (Some r)) k m → k.faults ≤ m.faults
      → WritesLine m q (refusal_line r) status → Answered q status
  line_ends r Refused w later line = λ files told. refused_whole (Soaked n) k m q r w line
  line_ends r WriteFault w later line = (
    (let rose = line.0 in omega arith),
    λ files told. refusal_cut (Soaked n) k m q r w line.1,
  )
  line_ends r Accepted w later line = absurd line
  line_ends r Usage w later line = absurd line
  line_ends r ReadFault w later line = absurd line
  line_ends r Memory w later line = absurd line

  soak_ends : (run : Result (Unit {0}) RunFail) (status : Status) → AloneEnds (Soaked n) k m run
      → k.faults ≤ m.faults → Finishes m q run status → Answered q status
  soak_ends (Ok done) status e later is =
      at_once Answered m q Accepted status is (λ files told. whole (Soaked n) k m m e)
  soak_ends (Err (fails.Refused r)) status e later is = line_ends r status e later is
  soak_ends (Err fails.ReadFault) status e later is = absurd e
  soak_ends (Err fails.WriteFault) status e later is =
      at_once Answered m q WriteFault status is (e.0, λ files told. lines_cut (Soaked n) k m e.1)
  soak_ends (Err fails.Memory) status e later is =
      at_once Answered m q Memory status is
      (e, λ files told. took_little [] (a.slots 1) (a.slots 1) refl)

  line_not_read : (r : Refusal) (status : Status) → WritesLine m q (refusal_line r) status → status ≡ ReadFault → ⊥
  line_not_read r Accepted line is = line
  line_not_read r Refused line is = cc
  line_not_read r Usage line is = line
  line_not_read r ReadFault line is = line
  line_not_read r WriteFault line is = cc
  line_not_read r Memory line is = line

  reads_nothing : (run : Result (Unit {0}) RunFail) (status : Status) → AloneEnds (Soaked n) k m run
      → Finishes m q run status → status ≡ ReadFault → NeedsFile (Soak n)
  reads_nothing (Ok done) status e is fault = let same = is.0 in cc
  reads_nothing (Err (fails.Refused r)) status e is fault = line_not_read r status is fault
  reads_nothing (Err fails.ReadFault) status e is fault = absurd e
  reads_nothing (Err fails.WriteFault) status e is fault = let same = is.0 in cc
  reads_nothing (Err fails.Memory) status e is fault = let same = is.0 in cc

  pub soak_finishes : (run : Result (Unit {0}) RunFail) (status : Status) → EndsAlone (Soaked n) k m run
      → Finishes m q run status → EndsCommand (Soak n) a a k q status
  soak_finishes run status e is = record {
    needed = reads_nothing run status e.ends is;
    ends = soak_ends run status e.ends e.later is;
    ended = λ accepted. tt;
    second = λ files told none. refl;
    few = λ files told. took_few [] (a.slots 1) (a.slots 1) refl;
    first = λ files told. took_few [] (a.slots 0) (a.slots 0) refl;
  }
