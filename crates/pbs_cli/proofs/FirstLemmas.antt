-- The first file, and what is done with it.
use Rattle.std.proofs.Common.{◌≡◌, ◌<◌, ◌+◌, ℕ, List, [], length, Some, Result, Ok, Err, Vec}
use Rattle.std.proofs.Common.{refl, sym, subst, ◌∙◌, arith}
use Rattle.std.specs.Prelude.{OnOk}
use Rattle.std.specs.Io.KnownBytes.{IsAtEnd}
use Rattle.std.specs.declared.alloc.Global.{Global}
use Rattle.pbs_io.specs.Outside.{ShelfState, SlotState, SinkState, NamedFile, content_of}
use Rattle.pbs_io.specs.Taken.{TakesAtMost}
use Rattle.pbs_io.proofs.WrittenLemmas.{append_known-nil}
use Rattle.pbs_text.specs.Answers.{ByLength}
use Rattle.vlog_text.specs.Reading as netlists
use Rattle.net_trace.specs.Outcomes.{refused}
use Rattle.net_trace.specs.Endings.{trace_text, HasTrace, RunEnds, lines_of}
use Rattle.net_trace.proofs.EndingLemmas.{IsPart, ends_more, few_more, took_few, took_little, wrote_nothing}
use Rattle.net_trace.proofs.EndingLemmas.{nothing_cut}
use Rattle.net_trace.specs.declared.fail.RunFail.{RunFail}
use Rattle.net_trace.specs.declared.fail.RunFail.TheVariants as fails
use Rattle.pbs_engine.specs.Accepted.{OnReading}
use Rattle.pbs_engine.specs.Migrated.{OnChecking}
use Rattle.pbs_engine.specs.Outcomes.{OfRefused, OfBadNetlist}
use Rattle.pbs_cli.specs.Words.{Job, Check, Compile, Map, Migrate, Sim, Trace, Run}
use Rattle.pbs_cli.specs.Answers.{OnBroken, OnNoMap, OnNoMigration, OnNoVerilog, HasNeeded, task_of, most_of}
use Rattle.pbs_cli.specs.inner.Parts.{ReadsFirst, Does, Attempts, subject_of, too_long}

-- a text that is too long is refused by every job
long_gives : (job : Job) (text trace : List ℕ) → most_of job < length text
    → (task_of job).gives text trace (refused (too_long (subject_of job) (most_of job)))
long_gives Check text trace is = OnBroken (OnReading (ByLength is))
long_gives Compile text trace is = OnNoVerilog (OnReading (ByLength is))
long_gives Map text trace is = OnNoMap (OnReading (ByLength is))
long_gives Migrate text trace is = OnNoMigration (OnChecking (OnReading (ByLength is)))
long_gives (Sim name) text trace is = OfBadNetlist (netlists.ByLength is)
long_gives (Trace name) text trace is = OfRefused (OnReading (ByLength is))

-- ---- a first file that wasn't read

fail_ends : (job : Job) (first : List ℕ) (a b : ShelfState) (k : SinkState) (fail : RunFail)
    → ReadsFirst job a b first (Err fail)
    → RunEnds (task_of job) (λ files. content_of files first) (HasNeeded (Run job first)) a b k k (Err fail)
fail_ends job first a b k (fails.Refused r) read = λ files told. record {
  text = [];
  defined = subst
      (λ s. (task_of job).gives (content_of files first) (trace_text (task_of job).trace files) (refused s))
      (sym read.gives.0)
      (long_gives job (content_of files first) (trace_text (task_of job).trace files) (read.gives.1 files told));
  written = sym (append_known-nil k.written);
}
fail_ends job first a b k fails.ReadFault read = (
  record {
    rose = read.gives.rose;
    never = λ calm files told has. read.gives.never calm files told has.0;
  },
  λ files told. record {
    front = nothing_cut
        (lines_of ((task_of job).gives (content_of files first) (trace_text (task_of job).trace files))) k;
    taken = wrote_nothing ((task_of job).due (content_of files first)) (trace_text (task_of job).trace files)
        (a.slots 1) (b.slots 1) k read.other;
  },
)
fail_ends job first a b k fails.WriteFault read = absurd read.gives
fail_ends job first a b k fails.Memory read =
    (refl, λ files told. took_little (trace_text (task_of job).trace files) (a.slots 1) (b.slots 1) read.other)

pub not_read : (job : Job) (first : List ℕ) (a b : ShelfState) (k : SinkState) (fail : RunFail)
    → ReadsFirst job a b first (Err fail) → Attempts job first a b k k (Err fail)
not_read job first a b k fail read = record {
  later = omega arith;
  ends = fail_ends job first a b k fail read;
  ended = tt;
  second = λ files told none. read.other;
  few = λ files told. took_few (trace_text (task_of job).trace files) (a.slots 1) (b.slots 1) read.other;
  first_few = read.few;
}

-- ---- a first file that was read

module _ (job : Job) (first : List ℕ) (a b c : ShelfState) (k m : SinkState) (bytes : Vec ℕ Global)
    (read : ReadsFirst job a b first (Ok bytes)) where
  same : (files : List NamedFile) → a.files ≡ Some files → bytes.items ≡ content_of files first
  same = read.gives.0

  part : IsPart (task_of job) (task_of job) (λ files. bytes.items) (λ files. content_of files first)
      (HasTrace (task_of job).trace ((task_of job).opens bytes.items)) (HasNeeded (Run job first)) a.files
  part = record {
    trace = refl;
    gives = λ files told trace o given. subst (λ l. (task_of job).gives l trace o) (same files told) given;
    due = λ files told taken lines rows. subst (λ l. (task_of job).due l taken lines) (same files told) rows;
    has = λ files told has.
        subst (λ l. HasTrace (task_of job).trace ((task_of job).opens l) files) (sym (same files told)) has.1;
  }

  at_end : (run : Result (Unit {0}) RunFail) → c.slots 0 ≡ b.slots 0 → OnOk run (IsAtEnd (c.slots 0).left)
  at_end (Ok done) other = subst (λ (s : SlotState). IsAtEnd s.left) (sym other) read.gives.1
  at_end (Err fail) other = tt

  pub done_with : (run : Result (Unit {0}) RunFail) → Does (task_of job) bytes.items b c k m run
      → Attempts job first a c k m run
  done_with run does = record {
    later = does.later;
    ends = ends_more (task_of job) (task_of job) (λ files. bytes.items) (λ files. content_of files first)
        (HasTrace (task_of job).trace ((task_of job).opens bytes.items)) (HasNeeded (Run job first)) a b c k m part
        read.goes_on read.other run does.ends;
    ended = at_end run does.other;
    second = λ files told leaves.
        does.leaves (subst (task_of job).leaves (sym (same files told)) leaves) ∙ read.other;
    few = λ files told.
        few_more (task_of job) (task_of job) (λ files. bytes.items) (λ files. content_of files first)
        (HasTrace (task_of job).trace ((task_of job).opens bytes.items)) (HasNeeded (Run job first)) a b c k m part
        read.goes_on read.other files (does.few files (read.goes_on.files ∙ told));
    first_few = λ files told.
        subst (λ o. TakesAtMost (most_of job + 1) (content_of files first) (a.slots 0) o) (sym does.other)
        (read.few files told);
  }
