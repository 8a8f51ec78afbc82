-- Runs with resets: the controller's run from any entries, and what it shows.
use Rattle.std.proofs.Common.{◌≡◌, ℕ, zero, suc, Bool, true, false, Option, Some, None, refl, ap}
use Rattle.std.proofs.Common.{List, [], ◌∷◌, map, length, slice_get}
use Rattle.pbs_base.specs.declared.entry.Entry.{Entry}
use Rattle.pbs_base.specs.declared.entry.Entry.TheVariants.{Vector, Reset}
use Rattle.pbs_base.specs.Entries.{Reads, since}
use Rattle.pbs_ast.specs.Trees.{Tree, is_place, is_action}
use Rattle.pbs_derive.specs.Derivations.{fires}
use Rattle.pbs_machine.specs.Rows.{main_starts}
use Rattle.pbs_machine.specs.Runs.{IsControllerRun}
use Rattle.pbs_examples.proofs.Tables.{select, numbers_from}
use Rattle.pbs_examples.proofs.Examples.{act_step_act, restarted, three_rows}

abbrev pub is_reset : Option Entry → Bool
is_reset (Some Reset) = true
is_reset (Some (Vector x)) = false
is_reset None = false

-- all inputs are 1 in a reset row
abbrev pub inputs_of : Option Entry → ℕ
inputs_of (Some (Vector x)) = x
inputs_of (Some Reset) = 7
inputs_of None = 7

abbrev pub resets : List Entry → ℕ → Bool
resets v zero = true
resets v (suc k) = is_reset (slice_get v k)

abbrev pub inputs : List Entry → ℕ → ℕ
inputs v zero = 7
inputs v (suc k) = inputs_of (slice_get v k)

-- the registers before row k
abbrev pub held : Tree → List Entry → ℕ → ℕ → Bool
held main v zero p = true
held main v (suc k) p = main_starts main (is_place p) (held main v k) (inputs v k) (resets v k)

reads_entry : (v : List Entry) (k : ℕ) (e : Entry) → slice_get v k ≡ Some e
    → Reads e (resets v (suc k)) (inputs v (suc k))
reads_entry v k (Vector x) q = (ap is_reset q, ap inputs_of q)
reads_entry v k Reset q = ap is_reset q

-- every tree has a run over every list of entries
pub has_run : (main : Tree) (v : List Entry) → IsControllerRun main v (held main v) (resets v) (inputs v)
has_run main v = record { first = refl; entries = reads_entry v; next = λ k a p b. refl }

-- the actions below 3 that fire in row k, by the derivations over the vectors since the last reset
abbrev pub derived_in : Tree → List Entry → ℕ → List ℕ
derived_in main v k = select (fires main (since v k) 0 (length (since v k))) (numbers_from 0 3)

-- the same by the controller
abbrev pub shown_in : Tree → List Entry → ℕ → List ℕ
shown_in main v k =
    select (λ a. main_starts main (is_action a) (held main v k) (inputs v k) (resets v k)) (numbers_from 0 3)

-- both give these rows
abbrev pub GivesSince : Tree → List Entry → List (List ℕ) → Type 0
GivesSince main v rows =
    (map (derived_in main v) (numbers_from 0 (suc (length v))) ≡ rows)
    × (map (shown_in main v) (numbers_from 0 (suc (length v))) ≡ rows)

act_step_act_again : GivesSince act_step_act (Vector 1 ∷ Reset ∷ Vector 1 ∷ [])
    ((0 ∷ []) ∷ (1 ∷ []) ∷ (0 ∷ []) ∷ (1 ∷ []) ∷ [])
act_step_act_again = (refl, refl)

-- a reset puts the trap off too
three_rows_put_off : GivesSince three_rows (Vector 0 ∷ Vector 0 ∷ Reset ∷ Vector 0 ∷ Vector 1 ∷ [])
    ([] ∷ [] ∷ [] ∷ [] ∷ [] ∷ (0 ∷ []) ∷ [])
three_rows_put_off = (refl, refl)

restarted_by_reset : GivesSince restarted (Vector 0 ∷ Reset ∷ Vector 1 ∷ [])
    ((0 ∷ []) ∷ [] ∷ (0 ∷ []) ∷ (0 ∷ 1 ∷ []) ∷ [])
restarted_by_reset = (refl, refl)
