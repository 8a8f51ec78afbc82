-- A step of the simulator makes the last row of every zero run.
use Rattle.std.proofs.Common.{◌≡◌, ℕ, zero, suc, ◌+◌, ◌<◌, Bool, true, false, List, [], ◌∷◌, ◌++◌, length}
use Rattle.std.proofs.Common.{Option, Some, None, get_or, refl, sym, ap, ◌∙◌, subst, arith}
use Rattle.std.specs.Prelude.{slice_get}
use Rattle.std.proofs.lemmas.List.{get_or-replicate}
use Rattle.std.proofs.lemmas.Option.{slice_get-get_or}
use Rattle.pbs_base.specs.declared.entry.Entry.{Entry}
use Rattle.pbs_base.specs.declared.entry.Entry.TheVariants.{Vector, Reset}
use Rattle.pbs_base.specs.Entries.{Reads}
use Rattle.net_core.specs.Rows.{Row, IsRow}
use Rattle.net_core.specs.Circuits.{Circuit, IsCircuit, wire_at}
use Rattle.net_core.specs.Runs.{next_of}
use Rattle.net_core.specs.declared.gate.Wire.TheVariants.{Const}
use Rattle.net_core.proofs.Pushed.{get_in_front, get_at_end, length_pushed}
use Rattle.net_eval.specs.Assignments.{Agree, row_with}
use Rattle.net_eval.specs.States.{State, IsFresh, Steps, row_of}
use Rattle.net_eval.specs.Simulated.{IsZeroRun, StandsAfter, inputs_of, is_reset}
use Rattle.net_eval.proofs.Agreeing.{value_agree}
use Rattle.net_eval.proofs.Assigning.{one_assignment_each}

next_agree : (net : Circuit) (a b : Row) → IsCircuit net → Agree (length net.registers) (length net.gates) a b
    → (r : ℕ) → r < length net.registers → next_of net a r ≡ next_of net b r
next_agree net a b ok s r h =
    let at = slice_get-get_or net.registers r (Const false) h in
    value_agree (length net.inputs) (length net.registers) (length net.gates) a b (wire_at net.registers r) s
    (ok.data_there.each r (wire_at net.registers r) at)

-- a step shows a row that begins like the step
stands_at : (v : List Entry) (old new : State) (reset : Bool) (vector : ℕ) → Steps old new reset vector
    → ((rows : ℕ → Row) → IsZeroRun old.net v rows
    → Agree (length old.net.registers) 0 (row_of old.registers reset vector new.gates) (rows (length v)))
    → StandsAfter v new
stands_at v old new reset vector steps begins =
    let net = old.net in
    let made = row_of old.registers reset vector new.gates in
    let same : (rows : ℕ → Row) → IsZeroRun net v rows
    → Agree (length net.registers) (length net.gates) made (rows (length v)) =
    λ rows z.
    (one_assignment_each net steps.circuit).same made (rows (length v)) steps.row
    (z.run.each (length v) (omega arith)) (begins rows z) in
    subst (λ (net' : Circuit). StandsAfter v (record {
      net = net';
      registers = new.registers;
      gates = new.gates;
      begun = new.begun;
      last = new.last;
      evaluated = new.evaluated;
    }))
    (sym steps.net)
    (record {
      gates = λ rows z n h. (same rows z).gates n h;
      registers = λ rows z r h.
          steps.registers r h ∙ next_agree net made (rows (length v)) steps.circuit (same rows z) r h;
    })

pub stands_first : (old new : State) → IsFresh old → Steps old new true 0 → StandsAfter [] new
stands_first old new fresh steps =
    stands_at [] old new true 0 steps (λ rows z. record {
      registers = λ k h.
          ap (λ xs. get_or xs k false) fresh.registers
          ∙ get_or-replicate (length old.net.registers) k false false h ∙ sym (z.registers k h);
      reset = sym z.run.first;
      vector = sym z.first;
      gates = λ n h. absurd (omega arith);
    })

-- the first entries of a zero run are a zero run
pub front_run : (net : Circuit) (v : List Entry) (e : Entry) (rows : ℕ → Row) → IsZeroRun net (v ++ e ∷ []) rows
    → IsZeroRun net v rows
front_run net v e rows z =
    let longer = length_pushed v e in
    record {
      run = record {
        each = λ k h. z.run.each k (omega (arith, longer));
        first = z.run.first;
        entries = λ k x at. z.run.entries k x (get_in_front v (e ∷ []) k x at);
        registers = λ k h. z.run.registers k (omega (arith, longer));
      };
      registers = z.registers;
      first = z.first;
      resets = λ k at. z.resets k (get_in_front v (e ∷ []) k Reset at);
    }

reads_reset : (e : Entry) (reset : Bool) (input : ℕ) → Reads e reset input → reset ≡ is_reset e
reads_reset (Vector x) reset input r = r.0
reads_reset Reset reset input r = r

reads_inputs : (e : Entry) (reset : Bool) (input : ℕ) → Reads e reset input → (e ≡ Reset → input ≡ 0)
    → input ≡ inputs_of e
reads_inputs (Vector x) reset input r zero_at = r.1
reads_inputs Reset reset input r zero_at = zero_at refl

pub stands_later : (v : List Entry) (e : Entry) (old new : State) → StandsAfter v old
    → Steps old new (is_reset e) (inputs_of e) → StandsAfter (v ++ e ∷ []) new
stands_later v e old new before steps =
    let net = old.net in
    let long = length_pushed v e ∙ (let s : length v + 1 ≡ suc (length v) = omega arith in s) in
    let at = get_at_end v e in
    stands_at (v ++ e ∷ []) old new (is_reset e) (inputs_of e) steps (λ rows z.
    let reads = z.run.entries (length v) e at in
    let row = rows (suc (length v)) in
    subst (λ k. Agree (length net.registers) 0 (row_of old.registers (is_reset e) (inputs_of e) new.gates) (rows k))
    (sym long)
    (record {
      registers = λ r h.
          before.registers rows (front_run net v e rows z) r h
          ∙ sym (z.run.registers (length v) (omega (arith, long)) r h);
      reset = sym (reads_reset e row.reset row.vector reads);
      vector = sym (reads_inputs e row.reset row.vector reads
          (λ is. z.resets (length v) (at ∙ ap (λ (x : Entry). Some x) is)));
      gates = λ n h. absurd (omega arith);
    }))

-- ---- there is a zero run

abbrev entry_reset : Option Entry → Bool
entry_reset None = true
entry_reset (Some e) = is_reset e

abbrev entry_inputs : Option Entry → ℕ
entry_inputs None = 0
entry_inputs (Some e) = inputs_of e

zero_rows : (net : Circuit) → IsCircuit net → List Entry → ℕ → Row
zero_rows net ok v zero =
    row_with (λ r. false) true 0 ((one_assignment_each net ok).some (λ r. false) true 0).0
zero_rows net ok v (suc k) =
    let o = slice_get v k in
    let before = next_of net (zero_rows net ok v k) in
    row_with before (entry_reset o) (entry_inputs o)
    ((one_assignment_each net ok).some before (entry_reset o) (entry_inputs o)).0

rows_are : (net : Circuit) (ok : IsCircuit net) (v : List Entry) (k : ℕ) → IsRow net.gates (zero_rows net ok v k)
unfolding zero_rows
rows_are net ok v zero = ((one_assignment_each net ok).some (λ r. false) true 0).1
rows_are net ok v (suc k) =
    let o = slice_get v k in
    let before = next_of net (zero_rows net ok v k) in
    ((one_assignment_each net ok).some before (entry_reset o) (entry_inputs o)).1

reads_entry : (e : Entry) (o : Option Entry) → o ≡ Some e → Reads e (entry_reset o) (entry_inputs o)
reads_entry e o same =
    subst (λ (x : Option Entry). Reads e (entry_reset x) (entry_inputs x)) (sym same) (reads_itself e)
  where
    reads_itself : (e : Entry) → Reads e (is_reset e) (inputs_of e)
    reads_itself (Vector x) = (refl, refl)
    reads_itself Reset = refl

pub some_zero_run : (net : Circuit) (v : List Entry) → IsCircuit net → (rows : ℕ → Row) × IsZeroRun net v rows
unfolding zero_rows
some_zero_run net v ok = (
  zero_rows net ok v,
  record {
    run = record {
      each = λ k h. rows_are net ok v k;
      first = refl;
      entries = λ k e at. reads_entry e (slice_get v k) at;
      registers = λ k h r l. refl;
    };
    registers = λ r h. refl;
    first = refl;
    resets = λ k at. ap (λ (x : Option Entry). entry_inputs x) at;
  },
)
