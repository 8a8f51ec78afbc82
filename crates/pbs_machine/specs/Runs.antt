-- The controller over a run of vectors and resets.
use Rattle.std.specs.Prelude.{◌≡◌, ℕ, suc, ◌<◌, Bool, true, List, length, slice_get, Some}
use Rattle.pbs_base.specs.declared.entry.Entry.{Entry}
use Rattle.pbs_base.specs.Entries.{Reads}
use Rattle.pbs_ast.specs.Trees.{Tree, is_place}
use Rattle.pbs_ast.specs.Sound.{place_count}
use Rattle.pbs_machine.specs.Rows.{main_starts}

-- rows 0 to length v of a run from reset: the registers before each row, its reset bit and its inputs;
-- a place's register takes the start bit of its terminal; the registers before row 0 and a reset row's inputs are free
pub record IsControllerRun (main : Tree) (v : List Entry) (old : ℕ → ℕ → Bool) (reset : ℕ → Bool)
    (input : ℕ → ℕ) : Type 0 where
  pub first : reset 0 ≡ true
  pub entries : (k : ℕ) (e : Entry) → slice_get v k ≡ Some e → Reads e (reset (suc k)) (input (suc k))
  pub next : (k : ℕ) → k < length v → (p : ℕ) → p < place_count main → old (suc k) p ≡ main_starts main (is_place p)
      (old k) (input k) (reset k)
