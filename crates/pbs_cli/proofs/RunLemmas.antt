-- How a command is answered.
use Rattle.std.proofs.Common.{◌≡◌, ◌≤◌, ℕ, List, ◌++◌, Option, Some, None, Result, Ok, Err}
use Rattle.std.proofs.Common.{sym, ap, subst, ◌∙◌, inl, inr, arith, append_assoc}
use Rattle.std.specs.Option.{ForSome}
use Rattle.std.specs.Io.KnownBytes.{append_known}
use Rattle.pbs_base.specs.declared.refusal.Refusal.{Refusal}
use Rattle.pbs_io.specs.Outside.{ShelfState, SinkState, NamedFile, WritesFront, content_of}
use Rattle.pbs_io.specs.Refusal.{refusal_line}
use Rattle.pbs_io.proofs.WrittenLemmas.{append_known-twice}
use Rattle.net_trace.specs.Outcomes.{Outcome}
use Rattle.net_trace.specs.Endings.{Wrote, IsFrontOf, CutShort, RunEnds, lines_with, lines_of, trace_text}
use Rattle.net_trace.specs.declared.fail.RunFail.{RunFail}
use Rattle.net_trace.specs.declared.fail.RunFail.TheVariants as fails
use Rattle.pbs_cli.specs.Words.{Job, Run}
use Rattle.pbs_cli.specs.Answers.{Answers, OnOutcome, HasNeeded, ReadToEnd, task_of, texts_with, texts_of}
use Rattle.pbs_cli.specs.inner.Parts.{Attempts, Ends, EndsCommand, Finishes, WritesLine}
use Rattle.pbs_cli.specs.declared.status.Status.{Status}
use Rattle.pbs_cli.specs.declared.status.Status.TheVariants.{Accepted, Refused, Usage, ReadFault, WriteFault, Memory}

-- ---- outcomes as answers

module _ (gives : Outcome → Type 0) (k m n : SinkState) where
  pub whole : Wrote (lines_with gives None) k m → Wrote (texts_with (Answers gives) 0) k m
  whole w = record {
    text = w.text;
    defined = OnOutcome (record { lines = w.text; refusal = None }) w.defined;
    written = w.written;
  }

  pub refused_whole : (r : Refusal) → Wrote (lines_with gives (Some r)) k m
      → n.written ≡ append_known m.written (refusal_line r) → Wrote (texts_with (Answers gives) 1) k n
  refused_whole r w line = record {
    text = w.text ++ refusal_line r;
    defined = OnOutcome (record { lines = w.text; refusal = Some r }) w.defined;
    written = line
        ∙ (ap (λ l. append_known l (refusal_line r)) w.written ∙ append_known-twice k.written w.text (refusal_line r));
  }

  pub refusal_cut : (r : Refusal) → Wrote (lines_with gives (Some r)) k m
      → WritesFront m.written n.written (refusal_line r) → CutShort (texts_of (Answers gives)) k n
  refusal_cut r w front = record {
    front = w.text ++ front.front;
    written = front.written
        ∙ (ap (λ l. append_known l front.front) w.written ∙ append_known-twice k.written w.text front.front);
    begins = inr (record {
      text = w.text ++ refusal_line r;
      defined = (1, OnOutcome (record { lines = w.text; refusal = Some r }) w.defined);
      rest = front.rest;
      whole = append_assoc w.text front.front front.rest ∙ ap (λ l. w.text ++ l) front.whole;
    });
  }

front_of : (gives : Outcome → Type 0) (front lines rest : List ℕ) (refusal : Option Refusal)
    → gives (record { lines = lines; refusal = refusal }) → front ++ rest ≡ lines
    → IsFrontOf (texts_of (Answers gives)) front
front_of gives front lines rest None is whole = record {
  text = lines;
  defined = (0, OnOutcome (record { lines = lines; refusal = None }) is);
  rest = rest;
  whole = whole;
}
front_of gives front lines rest (Some r) is whole = record {
  text = lines ++ refusal_line r;
  defined = (1, OnOutcome (record { lines = lines; refusal = Some r }) is);
  rest = rest ++ refusal_line r;
  whole = sym (append_assoc front rest (refusal_line r)) ∙ ap (λ l. l ++ refusal_line r) whole;
}

pub lines_cut : (gives : Outcome → Type 0) (k m : SinkState) → CutShort (lines_of gives) k m
    → CutShort (texts_of (Answers gives)) k m
lines_cut gives k m c = record {
  front = c.front;
  written = c.written;
  begins = elim c.begins [
    | inl none ↦ inl none
    | inr some ↦ inr (front_of gives c.front some.text some.rest some.defined.0 some.defined.1 some.whole)
  ];
}

-- ---- what was attempted has ended

-- a status and a sink that are these
pub at_once : (P : SinkState → Status → Type 0) (m n : SinkState) (done status : Status)
    → (status ≡ done) × (n ≡ m) → P m done → P n status
at_once P m n done status is p =
    subst (λ s. P n s) (sym is.0) (subst (λ x. P x done) (sym is.1) p)

module _ (job : Job) (first : List ℕ) (a c : ShelfState) (k m n : SinkState) where
  abbrev gives : List NamedFile → Outcome → Type 0
  gives files = (task_of job).gives (content_of files first) (trace_text (task_of job).trace files)

  abbrev Answered : SinkState → Status → Type 0
  Answered x status = Ends (Run job first) a c k x status

  abbrev Ended : Result (Unit {0}) RunFail → Type 0
  Ended run = RunEnds (task_of job) (λ files. content_of files first) (HasNeeded (Run job first)) a c k m run

  line_ends : (r : Refusal) (status : Status) → ForSome a.files (λ files. Wrote (lines_with (gives files) (Some r)) k m)
      → k.faults ≤ m.faults → WritesLine m n (refusal_line r) status → Answered n status
  line_ends r Refused w later line = λ files told. refused_whole (gives files) k m n r (w files told) line
  line_ends r WriteFault w later line = (
    (let rose = line.0 in omega arith),
    λ files told. refusal_cut (gives files) k m n r (w files told) line.1,
  )
  line_ends r Accepted w later line = absurd line
  line_ends r Usage w later line = absurd line
  line_ends r ReadFault w later line = absurd line
  line_ends r Memory w later line = absurd line

  run_ends : (run : Result (Unit {0}) RunFail) (status : Status) → Ended run → k.faults ≤ m.faults
      → Finishes m n run status → Answered n status
  run_ends (Ok done) status e later is =
      at_once Answered m n Accepted status is (λ files told. whole (gives files) k m m (e.1 files told))
  run_ends (Err (fails.Refused r)) status e later is = line_ends r status e later is
  run_ends (Err fails.ReadFault) status e later is = at_once Answered m n ReadFault status is (
    e.0,
    λ files told. record {
      front = lines_cut (gives files) k m (e.1 files told).front;
      taken = (e.1 files told).taken;
    },
  )
  run_ends (Err fails.WriteFault) status e later is =
      at_once Answered m n WriteFault status is (e.0, λ files told. lines_cut (gives files) k m (e.1 files told))
  run_ends (Err fails.Memory) status e later is = at_once Answered m n Memory status is e

  line_not_accepted : (r : Refusal) (status : Status) → WritesLine m n (refusal_line r) status → status ≡ Accepted → ⊥
  line_not_accepted r Accepted line is = line
  line_not_accepted r Refused line is = cc
  line_not_accepted r Usage line is = line
  line_not_accepted r ReadFault line is = line
  line_not_accepted r WriteFault line is = cc
  line_not_accepted r Memory line is = line

  to_the_end : (run : Result (Unit {0}) RunFail) (status : Status) → Attempts job first a c k m run
      → Finishes m n run status → status ≡ Accepted → ReadToEnd (Run job first) c
  to_the_end (Ok done) status at is accepted = (at.ended, at.ends.0)
  to_the_end (Err (fails.Refused r)) status at is accepted = absurd (line_not_accepted r status is accepted)
  to_the_end (Err fails.ReadFault) status at is accepted = absurd (let e = is.0 in cc)
  to_the_end (Err fails.WriteFault) status at is accepted = absurd (let e = is.0 in cc)
  to_the_end (Err fails.Memory) status at is accepted = absurd (let e = is.0 in cc)

  pub finishes : (run : Result (Unit {0}) RunFail) (status : Status) → Attempts job first a c k m run
      → Finishes m n run status → EndsCommand (Run job first) a c k n status
  finishes run status at is = record {
    needed = λ is. tt;
    ends = run_ends run status at.ends at.later is;
    ended = to_the_end run status at is;
    second = at.second;
    few = at.few;
    first = at.first_few;
  }
