-- The rows of a run, and their lines.
use Rattle.std.proofs.Common.{◌≡◌, ◌<◌, ◌≤◌, ◌+◌, ℕ, zero, suc, Bool, false, List, [], ◌∷◌, ◌++◌, length, map}
use Rattle.std.proofs.Common.{Some, refl, sym, ap, subst, ◌∙◌, append_assoc, append-nil, length-append, arith, get_or}
use Rattle.std.specs.Prelude.{slice_get, slice_index_or}
use Rattle.std.proofs.lemmas.Option.{slice_get-get_or}
use Rattle.pbs_base.specs.declared.entry.Entry.{Entry}
use Rattle.pbs_base.specs.declared.entry.Entry.TheVariants.{Reset}
use Rattle.net_core.specs.declared.netlist.Output.{Output}
use Rattle.net_core.specs.Rows.{Row}
use Rattle.net_core.specs.Circuits.{Circuit, IsCircuit, output_gate, output_names}
use Rattle.net_core.specs.Runs.{output_value}
use Rattle.net_eval.specs.States.{State}
use Rattle.net_eval.specs.Simulated.{IsZeroRun, StandsAfter}
use Rattle.trace_text.specs.Reports.{row_line, rows_text}
use Rattle.net_trace.specs.Outcomes.{shown_rows}

-- ---- a run and its front

in_front : (done todo : List Entry) (n : ℕ) (x : Entry) → slice_get done n ≡ Some x
    → slice_get (done ++ todo) n ≡ Some x
in_front [] todo n x at = absurd (cc)
in_front (y ∷ done) todo zero x at = at
in_front (y ∷ done) todo (suc n) x at = in_front done todo n x at

pub front_run : (net : Circuit) (done todo : List Entry) (rows : ℕ → Row) → IsZeroRun net (done ++ todo) rows
    → IsZeroRun net done rows
front_run net done todo rows z =
    let longer = length-append done todo in
    record {
      run = record {
        each = λ k h. z.run.each k (omega (arith, longer));
        first = z.run.first;
        entries = λ k x at. z.run.entries k x (in_front done todo k x at);
        registers = λ k h. z.run.registers k (omega (arith, longer));
      };
      registers = z.registers;
      first = z.first;
      resets = λ k at. z.resets k (in_front done todo k Reset at);
    }

-- ---- outputs

pub names_long : (outputs : List Output) → length (map (λ (o : Output). o.name) outputs) ≡ length outputs
names_long [] = refl
names_long (o ∷ outputs) = ap suc (names_long outputs)

gate_there : (net : Circuit) (n : ℕ) → IsCircuit net → n < length net.outputs → output_gate net n < length net.gates
gate_there net n ok less =
    ok.outputs_right.there n (get_or net.outputs n (record { name = []; gate = 0 }))
    (slice_get-get_or net.outputs n (record { name = []; gate = 0 }) less)

-- a simulator that has made the rows of these entries shows the outputs of the last
pub output_shown : (net : Circuit) (entries : List Entry) (sim : State) (rows : ℕ → Row) (n : ℕ) → IsCircuit net
    → sim.net ≡ net → StandsAfter entries sim → IsZeroRun net entries rows → n < length (output_names sim.net)
    → output_value net (rows (length entries)) n ≡ slice_index_or sim.gates (output_gate sim.net n) false
output_shown net entries sim rows n circuit same stands run less =
    let P : Circuit → Type 0 = λ c. n < length (output_names sim.net) → IsCircuit c → IsZeroRun c entries rows
    → (rows (length entries)).gates (output_gate c n) ≡ slice_index_or sim.gates (output_gate sim.net n) false in
    let own : P sim.net = λ within ok z.
    sym (stands.gates rows z (output_gate sim.net n)
    (gate_there sim.net n ok (omega (arith, within, names_long sim.net.outputs)))) in
    subst P same own less circuit run

-- ---- lines

pub length_more : (done : List Entry) (x : Entry) → length (done ++ x ∷ []) ≡ suc (length done)
length_more [] x = refl
length_more (y ∷ done) x = ap suc (length_more done x)

-- the line of the last row comes last
pub line_last : (names : List (List ℕ)) (outputs : ℕ → ℕ → Bool) (k n j : ℕ) → j ≡ k + n
    → rows_text names outputs k n ++ row_line names j (outputs j) ≡ rows_text names outputs k (suc n)
line_last names outputs k zero j at = let e : j ≡ k = omega arith in rw e (sym (append-nil _))
line_last names outputs k (suc n) j at =
    append_assoc (row_line names k (outputs k)) (rows_text names outputs (suc k) n) (row_line names j (outputs j))
    ∙ ap (λ l. row_line names k (outputs k) ++ l) (line_last names outputs (suc k) n j (omega arith))

-- the lines of fewer rows are a front of those of more
pub lines_front : (names : List (List ℕ)) (outputs : ℕ → ℕ → Bool) (k n m : ℕ) → n ≤ m
    → (rest : List ℕ) × (rows_text names outputs k n ++ rest ≡ rows_text names outputs k m)
lines_front names outputs k zero m few = (rows_text names outputs k m, refl)
lines_front names outputs k (suc n) zero few = absurd (omega arith)
lines_front names outputs k (suc n) (suc m) few =
    let more = lines_front names outputs (suc k) n m (omega arith) in (
      more.0,
      append_assoc (row_line names k (outputs k)) (rows_text names outputs (suc k) n) more.0
          ∙ ap (λ l. row_line names k (outputs k) ++ l) more.1,
    )

pub shown_front : (net : Circuit) (rows : ℕ → Row) (n m : ℕ) → n ≤ m
    → (rest : List ℕ) × (shown_rows net rows n ++ rest ≡ shown_rows net rows m)
shown_front net rows n m few =
    lines_front (output_names net) (λ k a. output_value net (rows k) a) 0 (suc n) (suc m) (omega arith)
