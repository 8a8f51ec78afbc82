-- How registers tell which places of a tree stand.
use Rattle.std.specs.Prelude.{◌≡◌, ℕ, ◌<◌, Bool, List, length, slice_get, Some}
use Rattle.pbs_base.specs.declared.entry.Entry.{Entry}
use Rattle.pbs_base.specs.Entries.{since}
use Rattle.pbs_ast.specs.Trees.{Tree}
use Rattle.pbs_ast.specs.Sound.{place_count}
use Rattle.pbs_derive.specs.Derivations.{stands}
use Rattle.net_core.specs.declared.codes.Code.{Code}
use Rattle.net_core.specs.declared.codes.CodePlan.{CodePlan}
use Rattle.net_core.specs.Rows.{Row}
use Rattle.net_core.specs.Circuits.{Circuit}
use Rattle.net_core.specs.Runs.{next_of}
use Rattle.net_encode.specs.Codes.{IsDue, code_registers, codes_of, tells}
use Rattle.frag_compose.specs.Composes.{own_codes}
use Rattle.pbs_codes.specs.Sharing.{IsSharedBy, KeepsRegisters}

-- the code of each place, and how many registers the codes have: the places share registers by the plan of the tree,
-- or each has the register of its number, where the tree is past a limit
pub data AreCodes (main : Tree) : ℕ → List Code → Type 0 where
  Shared : (plan : CodePlan) → IsSharedBy main plan → AreCodes main (code_registers plan.groups) (codes_of plan)
  Own : KeepsRegisters main → AreCodes main (place_count main) (own_codes (place_count main))

-- place p stands after row k, over the vectors since the last reset
abbrev pub row_stands : Tree → List Entry → ℕ → ℕ → Bool
row_stands main v k p = stands main (since v k) 0 (length (since v k)) p

-- after row k a place stands exactly where the registers tell its code; and each of the first so many registers is 1
-- exactly where some place that stands has it in its code with value 1
pub record ShowsCodes (net : Circuit) (main : Tree) (registers : ℕ) (codes : List Code) (v : List Entry)
    (rows : ℕ → Row) (k : ℕ) : Type 0 where
  pub told : (p : ℕ) (code : Code) → slice_get codes p ≡ Some code
      → tells (next_of net (rows k)) code ≡ row_stands main v k p
  pub due : (r : ℕ) → r < registers → IsDue (row_stands main v k) codes r (next_of net (rows k) r)
