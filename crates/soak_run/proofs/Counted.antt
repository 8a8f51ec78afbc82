-- Rows that are counted one after the other.
use Rattle.std.proofs.Common.{◌≡◌, ◌∙◌, ◌+◌, ◌<◌, ◌≤◌, ℕ, zero, suc, Bool, true, false, List, [], length}
use Rattle.std.proofs.Common.{refl, sym, ap, subst, arith}
use Rattle.std.proofs.lemmas.Bool.Decides.{nat_tests}
use Rattle.std.specs.Prelude.{◌&&◌, nat_lt, slice_index_or}
use Rattle.std.proofs.lemmas.Option.{slice_get-get_or}
use Rattle.pbs_base.specs.declared.entry.Entry.{Entry}
use Rattle.pbs_base.specs.declared.entry.Entry.TheVariants.{Vector}
use Rattle.net_core.specs.Rows.{Row}
use Rattle.net_core.specs.Circuits.{Circuit, IsCircuit, output_gate}
use Rattle.net_core.specs.Runs.{output_value}
use Rattle.net_core.proofs.Pushed.{length_pushed}
use Rattle.net_eval.specs.Simulated.{IsZeroRun, StandsAfter}
use Rattle.net_eval.specs.States.{State}
use Rattle.net_eval.proofs.Simulating.{front_run}
use Rattle.soak_run.specs.declared.counting.Counts.{Counts}
use Rattle.soak_run.specs.Soaks.{entries, is_shown, one_if, row_count, vector}
use Rattle.soak_run.specs.inner.Tallies.{Counting, CountsLast, shown}

pub entries_count : (n t : ℕ) → length (entries n t) ≡ t
entries_count n zero = refl
entries_count n (suc t) =
    let longer = length_pushed (entries n t) (Vector (vector n t)) in
    let same = entries_count n t in omega arith

gate_below : (net : Circuit) → IsCircuit net → (a : ℕ) → a < length net.outputs → output_gate net a < length net.gates
gate_below net right a less =
    right.outputs_right.there a (slice_index_or net.outputs a (record { name = []; gate = 0 }))
    (slice_get-get_or net.outputs a (record { name = []; gate = 0 }) less)

is_less : (a n : ℕ) → nat_lt a n ≡ true → a < n
is_less a n e = grind (arith, nat_tests)

shown_same : (s : State) (v : List Entry) → IsCircuit s.net → StandsAfter v s → (a : ℕ) (rows : ℕ → Row)
    → IsZeroRun s.net v rows → shown s a ≡ is_shown s.net (rows (length v)) a
shown_same s v right stands a rows run = by (nat_lt a (length s.net.outputs)) refl
  where
    by : (b : Bool) → nat_lt a (length s.net.outputs) ≡ b
        → b && slice_index_or s.gates (output_gate s.net a) false ≡ b && output_value s.net (rows (length v)) a
    by true e =
        stands.gates rows run (output_gate s.net a)
        (gate_below s.net right a (is_less a (length s.net.outputs) e))
    by false e = refl

-- what the simulator shows is what the last row of the run does
last_row : (s : State) (net : Circuit) (v : List Entry) → IsCircuit net → s.net ≡ net → StandsAfter v s → (a : ℕ)
    → (rows : ℕ → Row) → IsZeroRun net v rows → shown s a ≡ is_shown net (rows (length v)) a
last_row s net v right is stands a rows run =
    shown_same s v (subst IsCircuit (sym is) right) stands a rows (subst (λ c. IsZeroRun c v rows) (sym is) run)
    ∙ ap (λ c. is_shown c (rows (length v)) a) is

few_more : (old new t : ℕ) (b : Bool) → new ≡ old + one_if b → old ≤ t → new ≤ suc t
few_more old new t true is le = omega arith
few_more old new t false is le = omega arith

-- ---- row 0

first_count : (s : State) (net : Circuit) → IsCircuit net → s.net ≡ net → StandsAfter [] s → (a : ℕ)
    → (old new : ℕ) → old ≡ 0 → new ≡ old + one_if (shown s a) → (rows : ℕ → Row)
    → IsZeroRun net [] rows → new ≡ row_count (λ k. is_shown net (rows k) a) 1
first_count s net right is stands a old new none more rows run =
    more ∙ (ap (λ n. n + one_if (shown s a)) none
    ∙ ap (λ b. 0 + one_if b) (last_row s net [] right is stands a rows run))

pub begun : (n : ℕ) (s : State) (net : Circuit) (old new : Counts) → IsCircuit net
    → s.net ≡ net → StandsAfter [] s → old.hit ≡ 0 → old.pass ≡ 0 → old.lost ≡ 0 → CountsLast s old new
    → Counting net n 0 s new
begun n s net old new right is stands no_hit no_pass no_loss last = record {
  net_is = is;
  stands = stands;
  counted = record {
    hit = first_count s net right is stands 0 old.hit new.hit no_hit last.hit;
    pass = first_count s net right is stands 1 old.pass new.pass no_pass last.pass;
    lost = first_count s net right is stands 2 old.lost new.lost no_loss last.lost;
  };
  few_hits = few_more old.hit new.hit 0 (shown s 0) last.hit (omega (arith, no_hit));
  few_passes = few_more old.pass new.pass 0 (shown s 1) last.pass (omega (arith, no_pass));
  few_losses = few_more old.lost new.lost 0 (shown s 2) last.lost (omega (arith, no_loss));
}

-- ---- a row more

next_count : (n t : ℕ) (s : State) (net : Circuit) → IsCircuit net → s.net ≡ net → StandsAfter (entries n (suc t)) s
    → (a : ℕ) (old new : ℕ)
    → ((rows : ℕ → Row) → IsZeroRun net (entries n t) rows
    → old ≡ row_count (λ k. is_shown net (rows k) a) (suc (length (entries n t))))
    → new ≡ old + one_if (shown s a) → (rows : ℕ → Row) → IsZeroRun net (entries n (suc t)) rows
    → new ≡ row_count (λ k. is_shown net (rows k) a) (suc (length (entries n (suc t))))
next_count n t s net right is stands a old new so_far more rows run =
    let test : ℕ → Bool = λ k. is_shown net (rows k) a in
    let before = so_far rows (front_run net (entries n t) (Vector (vector n t)) rows run) in
    let same : suc (length (entries n t)) ≡ length (entries n (suc t)) =
    ap suc (entries_count n t) ∙ sym (entries_count n (suc t)) in
    more ∙ (ap (λ m. m + one_if (shown s a)) (before ∙ ap (row_count test) same)
    ∙ ap (λ b. row_count test (length (entries n (suc t))) + one_if b)
    (last_row s net (entries n (suc t)) right is stands a rows run))

pub one_more : (n t : ℕ) (old_state s : State) (net : Circuit) (old new : Counts) → IsCircuit net
    → Counting net n t old_state old → s.net ≡ net → StandsAfter (entries n (suc t)) s
    → CountsLast s old new → Counting net n (suc t) s new
one_more n t old_state s net old new right so_far is stands last = record {
  net_is = is;
  stands = stands;
  counted = record {
    hit = next_count n t s net right is stands 0 old.hit new.hit so_far.counted.hit last.hit;
    pass = next_count n t s net right is stands 1 old.pass new.pass so_far.counted.pass last.pass;
    lost = next_count n t s net right is stands 2 old.lost new.lost so_far.counted.lost last.lost;
  };
  few_hits = few_more old.hit new.hit (suc t) (shown s 0) last.hit so_far.few_hits;
  few_passes = few_more old.pass new.pass (suc t) (shown s 1) last.pass so_far.few_passes;
  few_losses = few_more old.lost new.lost (suc t) (shown s 2) last.lost so_far.few_losses;
}
