-- Tables of what a tree covers and where it is alive, for a run of n vectors.
use Rattle.std.specs.Prelude.{◌≡◌, ℕ, ◌+◌, ◌≤◌, Bool, false, ◌&&◌, ◌||◌, nat_eq, List, length, Result, Ok, Err}
use Rattle.pbs_base.specs.declared.fail.Memory.{Memory}
use Rattle.pbs_ast.specs.Trees.{Tree}
use Rattle.pbs_derive.specs.Derivations.{covers, alive}
use Rattle.pbs_covers.specs.Grids.{entry, at, joint, throughout, aborted}
use Rattle.pbs_covers.specs.declared.step.Tables.{Tables}
use Rattle.pbs_covers.specs.declared.step.Step.{Step}
use Rattle.pbs_covers.specs.declared.step.Step.TheVariants.{Empty, Terminal, Seq, Choice, Star, Hold, Scope}

-- what a node covers, from the tables of its parts and its own rows of later starts
abbrev pub step_covers : Step → ℕ → List (List Bool) → ℕ → ℕ → Bool
step_covers Empty n own i j = nat_eq i j
step_covers (Terminal truths) n own i j = nat_eq j (i + 1) && entry truths i
step_covers (Seq a b) n own i j = joint n a.covers b.covers i i j
step_covers (Choice a b) n own i j = at n a.covers i j || at n b.covers i j
step_covers (Star a) n own i j = nat_eq i j || joint n a.covers own (i + 1) i j
step_covers (Hold truths a) n own i j = at n a.covers i j && throughout truths i j
step_covers (Scope a x h) n own i j = aborted n x.covers a.alive a.covers h.covers i j

-- where a node is alive, from the tables of its parts and what it covers
abbrev pub step_alive : Step → ℕ → List (List Bool) → ℕ → ℕ → Bool
step_alive Empty n own i j = false
step_alive (Terminal truths) n own i j = nat_eq j i
step_alive (Seq a b) n own i j = at n a.alive i j || joint n a.covers b.alive i i j
step_alive (Choice a b) n own i j = at n a.alive i j || at n b.alive i j
step_alive (Star a) n own i j = joint n own a.alive i i j
step_alive (Hold truths a) n own i j = at n a.alive i j && throughout truths i j
step_alive (Scope a x h) n own i j = aborted n x.covers a.alive a.alive h.alive i j

-- the tables tell of each stretch of the run
pub record IsTables (e : Tree) (v : List ℕ) (tables : Tables) : Type 0 where
  pub covers : (i j : ℕ) → i ≤ j → j ≤ length v → at (length v) tables.covers i j ≡ covers e v i j
  pub alive : (i j : ℕ) → i ≤ j → j ≤ length v → at (length v) tables.alive i j ≡ alive e v i j

-- a grid that has in each entry what the node covers
pub record IsCovers (step : Step) (n : ℕ) (grid : List (List Bool)) : Type 0 where
  pub entries : (i j : ℕ) → i ≤ j → j ≤ n → at n grid i j ≡ step_covers step n grid i j

pub record IsAlive (step : Step) (n : ℕ) (own grid : List (List Bool)) : Type 0 where
  pub entries : (i j : ℕ) → i ≤ j → j ≤ n → at n grid i j ≡ step_alive step n own i j

-- the tables of a node, from those of its parts
pub record IsStep (step : Step) (n : ℕ) (tables : Tables) : Type 0 where
  pub covered : IsCovers step n tables.covers
  pub lives : IsAlive step n tables.covers tables.alive

-- the step from what was made of the parts, or the first failure
abbrev pub result_map : {A B : Type 0} → (A → B) → Result A Memory → Result B Memory
result_map f (Ok x) = Ok (f x)
result_map f (Err e) = Err e

abbrev pub result_map2 : {A B C : Type 0} → (A → B → C) → Result A Memory → Result B Memory → Result C Memory
result_map2 f (Ok x) r = result_map (f x) r
result_map2 f (Err e) r = Err e

abbrev pub result_map3 : {A B C D : Type 0} → (A → B → C → D) → Result A Memory → Result B Memory → Result C Memory
    → Result D Memory
result_map3 f (Ok x) r s = result_map2 (f x) r s
result_map3 f (Err e) r s = Err e

abbrev pub terminal_step_of : Result (List Bool) Memory → Result Step Memory
terminal_step_of r = result_map Terminal r

abbrev pub seq_step_of : Result Tables Memory → Result Tables Memory → Result Step Memory
seq_step_of r s = result_map2 Seq r s

abbrev pub choice_step_of : Result Tables Memory → Result Tables Memory → Result Step Memory
choice_step_of r s = result_map2 Choice r s

abbrev pub star_step_of : Result Tables Memory → Result Step Memory
star_step_of r = result_map Star r

abbrev pub hold_step_of : Result (List Bool) Memory → Result Tables Memory → Result Step Memory
hold_step_of r s = result_map2 Hold r s

abbrev pub scope_step_of : Result Tables Memory → Result Tables Memory → Result Tables Memory → Result Step Memory
scope_step_of r s q = result_map3 Scope r s q

abbrev pub IsStepOk : Result Step Memory → ℕ → Tables → Type 0
IsStepOk (Ok step) n tables = IsStep step n tables
IsStepOk (Err e) n tables = ⊥
