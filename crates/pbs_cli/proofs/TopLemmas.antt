-- What the top call says, by the status.
use Rattle.std.proofs.Common.{◌≡◌, ◌≢◌, ◌≤◌, ◌<◌, ◌+◌, ◌⊎◌, ℕ, true, [], refl, sym, subst, inl, inr, arith}
use Rattle.std.specs.Option.{ForSome}
use Rattle.pbs_io.specs.Outside.{ShelfState, SinkState, Rose}
use Rattle.pbs_io.specs.Taken.{TakesAtMost}
use Rattle.pbs_io.proofs.WrittenLemmas.{append_known-nil}
use Rattle.net_trace.specs.Taken.{Stops, TakesLittle}
use Rattle.net_trace.specs.Endings.{CutShort, Wrote, WroteTaken}
use Rattle.net_trace.proofs.EndingLemmas.{took_few}
use Rattle.pbs_cli.specs.Words.{Command}
use Rattle.pbs_cli.specs.Words as words
use Rattle.pbs_cli.specs.Answers.{Defines, DueRows, HasNeeded, NeedsFile, NeedsNoSecond, ReadToEnd, first_of}
use Rattle.pbs_cli.specs.Answers.{first_most}
use Rattle.pbs_cli.specs.Answers.{trace_of, texts_with, texts_of}
use Rattle.pbs_cli.specs.inner.Status.{code_of}
use Rattle.pbs_cli.specs.inner.Parts.{EndsCommand}
use Rattle.pbs_cli.specs.declared.status.Status.{Status}
use Rattle.pbs_cli.specs.declared.status.Status.TheVariants.{Accepted, Refused, Usage, ReadFault, WriteFault, Memory}

-- the clauses of the call
pub record TopEnds (command : Command) (s n : ShelfState) (k m : SinkState) (result : ℕ) : Type 0 where
  pub range : result ≤ 5
  pub answered : result < 2 → ForSome s.files (λ files. Wrote (texts_with (Defines command files) result) k m)
  pub ended : result ≡ 0 → ReadToEnd command n
  pub read : result ≡ 3 → Rose s.faults n.faults
  pub needs : result ≡ 3 → NeedsFile command
  pub never : s.sound ≡ true → ForSome s.files (λ files. HasNeeded command files → result ≢ 3)
  pub write : result ≡ 4 → Rose k.faults m.faults
  pub front : (result ≡ 3) ⊎ (result ≡ 4)
      → ForSome s.files (λ files. CutShort (texts_of (Defines command files)) k m)
  pub memory : result ≡ 5 → m.written ≡ k.written
  pub stopped : result ≡ 3 → ForSome s.files (λ files.
      WroteTaken (Stops (DueRows command files)) (trace_of command files) (s.slots 1) (n.slots 1) k m)
  pub little : result ≡ 5 → ForSome s.files (λ files.
      TakesLittle (trace_of command files) (s.slots 1) (n.slots 1))
  pub first : ForSome s.files (λ files.
      TakesAtMost (first_most command + 1) (first_of command files) (s.slots 0) (n.slots 0))
  pub few : ForSome s.files (λ files. TakesAtMost 67108865 (trace_of command files) (s.slots 1) (n.slots 1))
  pub second : ForSome s.files (λ files. NeedsNoSecond command files → n.slots 1 ≡ s.slots 1)
  pub complete : (Rose s.faults n.faults → ⊥) → (Rose k.faults m.faults → ⊥) → result ≢ 5
      → ForSome s.files (λ files. Wrote (texts_with (Defines command files) result) k m)

usage_ends : (s : ShelfState) (k : SinkState) → TopEnds words.Usage s s k k 2
usage_ends s k = record {
  range = omega arith;
  answered = λ less. absurd (omega arith);
  ended = λ is. absurd (cc);
  read = λ is. absurd (cc);
  needs = λ is. absurd (cc);
  never = λ calm files told has is. cc;
  write = λ is. absurd (cc);
  front = λ is. elim is [ inl three ↦ absurd (cc) | inr four ↦ absurd (cc) ];
  memory = λ is. refl;
  stopped = λ is. absurd (cc);
  little = λ is. absurd (cc);
  first = λ files told. took_few [] (s.slots 0) (s.slots 0) refl;
  few = λ files told. took_few [] (s.slots 1) (s.slots 1) refl;
  second = λ files told none. refl;
  complete = λ calm quiet enough files told.
      record { text = []; defined = refl; written = sym (append_known-nil k.written) };
}

accepted_ends : (command : Command) (s n : ShelfState) (k m : SinkState) → EndsCommand command s n k m Accepted
    → TopEnds command s n k m 0
accepted_ends command s n k m e = record {
  range = omega arith;
  answered = λ less. e.ends;
  ended = λ is. e.ended refl;
  read = λ is. absurd (cc);
  needs = λ is. absurd (cc);
  never = λ calm files told has is. cc;
  write = λ is. absurd (cc);
  front = λ is. elim is [ inl three ↦ absurd (cc) | inr four ↦ absurd (cc) ];
  memory = λ is. absurd (cc);
  stopped = λ is. absurd (cc);
  little = λ is. absurd (cc);
  first = e.first;
  few = e.few;
  second = e.second;
  complete = λ calm quiet enough. e.ends;
}

refused_ends : (command : Command) (s n : ShelfState) (k m : SinkState) → EndsCommand command s n k m Refused
    → TopEnds command s n k m 1
refused_ends command s n k m e = record {
  range = omega arith;
  answered = λ less. e.ends;
  ended = λ is. absurd (cc);
  read = λ is. absurd (cc);
  needs = λ is. absurd (cc);
  never = λ calm files told has is. cc;
  write = λ is. absurd (cc);
  front = λ is. elim is [ inl three ↦ absurd (cc) | inr four ↦ absurd (cc) ];
  memory = λ is. absurd (cc);
  stopped = λ is. absurd (cc);
  little = λ is. absurd (cc);
  first = e.first;
  few = e.few;
  second = e.second;
  complete = λ calm quiet enough. e.ends;
}

read_fault_ends : (command : Command) (s n : ShelfState) (k m : SinkState) → EndsCommand command s n k m ReadFault
    → TopEnds command s n k m 3
read_fault_ends command s n k m e = record {
  range = omega arith;
  answered = λ less. absurd (omega arith);
  ended = λ is. absurd (cc);
  read = λ is. e.ends.0.rose;
  needs = λ is. e.needed refl;
  never = λ calm files told has is. e.ends.0.never calm files told has;
  write = λ is. absurd (cc);
  front = λ is files told. (e.ends.1 files told).front;
  memory = λ is. absurd (cc);
  stopped = λ is files told. (e.ends.1 files told).taken;
  little = λ is. absurd (cc);
  first = e.first;
  few = e.few;
  second = e.second;
  complete = λ calm quiet enough. absurd (calm e.ends.0.rose);
}

write_fault_ends : (command : Command) (s n : ShelfState) (k m : SinkState) → EndsCommand command s n k m WriteFault
    → TopEnds command s n k m 4
write_fault_ends command s n k m e = record {
  range = omega arith;
  answered = λ less. absurd (omega arith);
  ended = λ is. absurd (cc);
  read = λ is. absurd (cc);
  needs = λ is. absurd (cc);
  never = λ calm files told has is. cc;
  write = λ is. e.ends.0;
  front = λ is. e.ends.1;
  memory = λ is. absurd (cc);
  stopped = λ is. absurd (cc);
  little = λ is. absurd (cc);
  first = e.first;
  few = e.few;
  second = e.second;
  complete = λ calm quiet enough. absurd (quiet e.ends.0);
}

memory_ends : (command : Command) (s n : ShelfState) (k m : SinkState) → EndsCommand command s n k m Memory
    → TopEnds command s n k m 5
memory_ends command s n k m e = record {
  range = omega arith;
  answered = λ less. absurd (omega arith);
  ended = λ is. absurd (cc);
  read = λ is. absurd (cc);
  needs = λ is. absurd (cc);
  never = λ calm files told has is. cc;
  write = λ is. absurd (cc);
  front = λ is. elim is [ inl three ↦ absurd (cc) | inr four ↦ absurd (cc) ];
  memory = λ is. e.ends.0;
  stopped = λ is. absurd (cc);
  little = λ is. e.ends.1;
  first = e.first;
  few = e.few;
  second = e.second;
  complete = λ calm quiet enough. absurd (enough refl);
}

pub top_ends : (command : Command) (s n : ShelfState) (k m : SinkState) (status : Status)
    → (status ≡ Usage → command ≡ words.Usage) → (status ≡ Usage → (n ≡ s) × (m ≡ k))
    → (status ≢ Usage → EndsCommand command s n k m status) → TopEnds command s n k m (code_of status)
top_ends command s n k m Accepted usage same ends = accepted_ends command s n k m (ends (λ bad. cc))
top_ends command s n k m Refused usage same ends = refused_ends command s n k m (ends (λ bad. cc))
top_ends command s n k m Usage usage same ends =
    subst (λ c. TopEnds c s n k m 2) (sym (usage refl))
    (subst (λ x. TopEnds words.Usage s x k m 2) (sym (same refl).0)
    (subst (λ x. TopEnds words.Usage s s k x 2) (sym (same refl).1) (usage_ends s k)))
top_ends command s n k m ReadFault usage same ends = read_fault_ends command s n k m (ends (λ bad. cc))
top_ends command s n k m WriteFault usage same ends = write_fault_ends command s n k m (ends (λ bad. cc))
top_ends command s n k m Memory usage same ends = memory_ends command s n k m (ends (λ bad. cc))
