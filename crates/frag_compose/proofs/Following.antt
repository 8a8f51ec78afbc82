-- A netlist that has the composed circuit follows the derivations.
use Rattle.std.proofs.Common.{◌≡◌, ℕ, ◌<◌, ◌≤◌, Bool, List, length, ap, ◌∙◌, arith}
use Rattle.pbs_base.specs.declared.entry.Entry.{Entry}
use Rattle.pbs_base.specs.Entries.{since}
use Rattle.pbs_ast.specs.Trees.{Tree, is_place, is_action}
use Rattle.pbs_ast.specs.Sound.{IsSound, place_count}
use Rattle.pbs_derive.specs.Derivations.{stands, fires, NoOverlapBelow}
use Rattle.pbs_machine.specs.Rows.{main_starts}
use Rattle.pbs_machine.specs.Runs.{IsControllerRun}
use Rattle.net_core.specs.declared.gate.Wire.{Wire}
use Rattle.net_core.specs.declared.gate.Wire.TheVariants.{Reg}
use Rattle.net_core.specs.Rows.{Row, IsRow, value}
use Rattle.net_core.specs.Circuits.{Circuit}
use Rattle.net_core.specs.Building.{Keeps}
use Rattle.net_core.specs.Runs.{IsRun, next_of}
use Rattle.frag_compose.specs.Composes.{Composes, Follows, FollowsRow}

-- what is known of the controller's rows
abbrev RegistersStand : Type 0
RegistersStand =
    (main : Tree) (v : List Entry) (old : ℕ → ℕ → Bool) (reset : ℕ → Bool) (input : ℕ → ℕ)
    → IsSound main → IsControllerRun main v old reset input → (k : ℕ) → k ≤ length v
    → NoOverlapBelow main (since v k) (length (since v k)) → (p : ℕ)
    → main_starts main (is_place p) (old k) (input k) (reset k) ≡ stands main (since v k) 0 (length (since v k)) p

abbrev FireBitsFire : Type 0
FireBitsFire =
    (main : Tree) (v : List Entry) (old : ℕ → ℕ → Bool) (reset : ℕ → Bool) (input : ℕ → ℕ)
    → IsSound main → IsControllerRun main v old reset input → (k : ℕ) → k ≤ length v
    → NoOverlapBelow main (since v k) (length (since v k)) → (a : ℕ)
    → main_starts main (is_action a) (old k) (input k) (reset k) ≡ fires main (since v k) 0 (length (since v k)) a

module _ (stand : RegistersStand) (fire : FireBitsFire) (old new : Circuit) (main : Tree) (m : ℕ) (wires : List Wire)
    (sound : IsSound main) (c : Composes old new main m wires) (net : Circuit) (all : Keeps new net) where
  module _ (v : List Entry) (rows : ℕ → Row) (run : IsRun net v rows) where
    abbrev before : ℕ → ℕ → Bool
    before k = (rows k).registers

    abbrev reset_in : ℕ → Bool
    reset_in k = (rows k).reset

    abbrev read_in : ℕ → ℕ
    read_in k = (rows k).vector

    is_row : (k : ℕ) → k ≤ length v → IsRow new.gates (rows k)
    is_row k le = all.rows (rows k) (run.each k le)

    -- the value of a place's register after row k
    next_value : (k : ℕ) → k ≤ length v → (p : ℕ) → p < place_count main
        → next_of net (rows k) p ≡ main_starts main (is_place p) (rows k).registers (rows k).vector (rows k).reset
    next_value k le p lt =
        ap (λ w. value (rows k) w) (all.data_wires p (omega (arith, c.places))) ∙ c.next (rows k) (is_row k le) p lt

    controller : IsControllerRun main v before reset_in read_in
    controller = record {
      first = run.first;
      entries = run.entries;
      next = λ k lt p below.
          run.registers k lt p (all.there (Reg p) (omega (arith, c.places))) ∙ next_value k (omega arith) p below;
    }

    follows_row : (k : ℕ) → k ≤ length v → NoOverlapBelow main (since v k) (length (since v k))
        → FollowsRow net wires main m v rows k
    follows_row k le none = record {
      registers = λ p lt.
          next_value k le p lt ∙ stand main v before reset_in read_in sound controller k le none p;
      fire_wires = λ a lt.
          c.fire (rows k) (is_row k le) a lt ∙ fire main v before reset_in read_in sound controller k le none a;
    }

  pub follows : Follows net wires main m
  follows = record { at_row = follows_row }
