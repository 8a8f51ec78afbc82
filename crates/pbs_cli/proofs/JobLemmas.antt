-- What is done with a text.
use Rattle.std.proofs.Common.{ℕ, List, [], None, Result, Ok, Err, refl, sym, inr, arith}
use Rattle.pbs_base.specs.declared.refusal.Refusal.{Refusal}
use Rattle.pbs_io.specs.Outside.{ShelfState, SinkState, Writes}
use Rattle.pbs_io.proofs.WrittenLemmas.{append_known-nil}
use Rattle.pbs_io.proofs.ReadLemmas.{GoesOn-refl}
use Rattle.net_trace.specs.Outcomes.{Outcome, refused}
use Rattle.net_trace.specs.Endings.{TaskEnds}
use Rattle.net_trace.proofs.EndingLemmas.{took_few, took_little}
use Rattle.net_trace.specs.declared.fail.RunFail.{RunFail}
use Rattle.net_trace.specs.declared.fail.RunFail.TheVariants as fails
use Rattle.pbs_cli.specs.Answers.{text_alone}
use Rattle.pbs_cli.specs.inner.Parts.{AloneEnds, EndsAlone, Does}

-- ---- a text that is written

pub text_written : {T E : Type 0} (gives : Outcome → Type 0) (text : List ℕ) (k m : SinkState) (x : T)
    → gives (record { lines = text; refusal = None }) → Writes {E = E} k m text (Ok x) → EndsAlone gives k m (Ok tt)
text_written gives text k m x is w =
    record { later = w.later; ends = record { text = text; defined = is; written = w.whole } }

pub text_cut : {T E : Type 0} (gives : Outcome → Type 0) (text : List ℕ) (k m : SinkState) (e : E)
    → gives (record { lines = text; refusal = None }) → Writes {T = T} k m text (Err e)
    → EndsAlone gives k m (Err fails.WriteFault)
text_cut gives text k m e is w = record {
  later = w.later;
  ends = (
    w.cause,
    record {
      front = w.front.front;
      written = w.front.written;
      begins = inr (record { text = text; defined = (None, is); rest = w.front.rest; whole = w.front.whole });
    },
  );
}

pub text_refused : (gives : Outcome → Type 0) (r : Refusal) (k : SinkState) → gives (refused r)
    → EndsAlone gives k k (Err (fails.Refused r))
text_refused gives r k is = record {
  later = omega arith;
  ends = record { text = []; defined = is; written = sym (append_known-nil k.written) };
}

-- ---- a task that reads nothing

alone_ends : (gives : List ℕ → Outcome → Type 0) (text : List ℕ) (a : ShelfState) (k m : SinkState)
    (result : Result (Unit {0}) RunFail) → AloneEnds (gives text) k m result
    → TaskEnds (text_alone gives) text a a k m result
alone_ends gives text a k m (Ok done) e = (tt, λ files told. e)
alone_ends gives text a k m (Err (fails.Refused r)) e = λ files told. e
alone_ends gives text a k m (Err fails.ReadFault) e = absurd e
alone_ends gives text a k m (Err fails.WriteFault) e = (e.0, λ files told. e.1)
alone_ends gives text a k m (Err fails.Memory) e =
    (e, λ files told. took_little [] (a.slots 1) (a.slots 1) refl)

pub alone_does : (gives : List ℕ → Outcome → Type 0) (text : List ℕ) (a : ShelfState) (k m : SinkState)
    (result : Result (Unit {0}) RunFail) → EndsAlone (gives text) k m result
    → Does (text_alone gives) text a a k m result
alone_does gives text a k m result e = record {
  goes_on = GoesOn-refl a;
  other = refl;
  later = e.later;
  ends = alone_ends gives text a k m result e.ends;
  few = λ files told. took_few [] (a.slots 1) (a.slots 1) refl;
  leaves = λ none. refl;
}
