-- Counts as a run goes on.
use Rattle.std.specs.Prelude.{◌≡◌, ℕ, suc, ◌+◌, ◌≤◌, Bool, false, ◌&&◌, nat_lt, length, slice_index_or}
use Rattle.net_core.specs.Circuits.{Circuit, output_gate}
use Rattle.net_eval.specs.Simulated.{StandsAfter}
use Rattle.net_eval.specs.States.{State}
use Rattle.soak_run.specs.declared.counting.Counts.{Counts}
use Rattle.soak_run.specs.Soaks.{CountsRows, entries, one_if}

-- the simulator's netlist has output n, and it was 1 in the last row
abbrev pub shown : State → ℕ → Bool
shown s n = nat_lt n (length s.net.outputs) && slice_index_or s.gates (output_gate s.net n) false

-- the last row was counted
pub record CountsLast (s : State) (old new : Counts) : Type 0 where
  pub hit : new.hit ≡ old.hit + one_if (shown s 0)
  pub pass : new.pass ≡ old.pass + one_if (shown s 1)
  pub lost : new.lost ≡ old.lost + one_if (shown s 2)

-- row 0 and t more were counted
pub record Counting (net : Circuit) (n t : ℕ) (s : State) (counts : Counts) : Type 0 where
  pub net_is : s.net ≡ net
  pub stands : StandsAfter (entries n t) s
  pub counted : CountsRows net (entries n t) counts
  pub few_hits : counts.hit ≤ suc t
  pub few_passes : counts.pass ≤ suc t
  pub few_losses : counts.lost ≤ suc t
