-- Charts of what a node covers, where it is alive and where an action fires, for a run of n vectors.
use Rattle.std.specs.Prelude.{◌≡◌, ℕ, ◌+◌, ◌-◌, ◌≤◌, ◌<◌, Bool, false, ◌&&◌, ◌||◌, nat_eq, List, length, map, slice_get, Some}
use Rattle.bool_terms.specs.Terms.{holds}
use Rattle.pbs_ast.specs.Trees.{Tree}
use Rattle.pbs_ast.specs.Trees as tree
use Rattle.pbs_ast.specs.Sound.{visit_count}
use Rattle.pbs_derive.specs.Derivations.{covers, alive, fires}
use Rattle.pbs_covers.specs.Grids.{entry, at, joint, throughout, aborted}
use Rattle.pbs_explain.specs.declared.step.Chart.{Chart}
use Rattle.pbs_explain.specs.declared.step.Step.{Step}
use Rattle.pbs_explain.specs.declared.step.Step.TheVariants.{Empty, Action, Terminal, Seq, Choice, Star, Hold, Scope}

-- what a node covers, from the charts of its parts and its own rows of later starts
abbrev pub step_covers : Step → ℕ → List (List Bool) → ℕ → ℕ → Bool
step_covers Empty n own i j = nat_eq i j
step_covers (Action asked) n own i j = nat_eq i j
step_covers (Terminal truths) n own i j = nat_eq j (i + 1) && entry truths i
step_covers (Seq a b) n own i j = joint n a.now.covers b.now.covers i i j
step_covers (Choice a b) n own i j = at n a.now.covers i j || at n b.now.covers i j
step_covers (Star a) n own i j = nat_eq i j || joint n a.now.covers own (i + 1) i j
step_covers (Hold truths a) n own i j = at n a.now.covers i j && throughout truths i j
step_covers (Scope a x h) n own i j = aborted n x.now.covers a.now.alive a.now.covers h.now.covers i j

-- where a node is alive, from the charts of its parts and what it covers
abbrev pub step_alive : Step → ℕ → List (List Bool) → ℕ → ℕ → Bool
step_alive Empty n own i j = false
step_alive (Action asked) n own i j = false
step_alive (Terminal truths) n own i j = nat_eq i j
step_alive (Seq a b) n own i j = at n a.now.alive i j || joint n a.now.covers b.now.alive i i j
step_alive (Choice a b) n own i j = at n a.now.alive i j || at n b.now.alive i j
step_alive (Star a) n own i j = joint n own a.now.alive i i j
step_alive (Hold truths a) n own i j = at n a.now.alive i j && throughout truths i j
step_alive (Scope a x h) n own i j = aborted n x.now.covers a.now.alive a.now.alive h.now.alive i j

-- where the action fires in a node, from the charts of its parts and what it covers
abbrev pub step_fires : Step → ℕ → List (List Bool) → ℕ → ℕ → Bool
step_fires Empty n own i j = false
step_fires (Action asked) n own i j = asked && nat_eq i j
step_fires (Terminal truths) n own i j = false
step_fires (Seq a b) n own i j = at n a.now.fires i j || joint n a.now.covers b.now.fires i i j
step_fires (Choice a b) n own i j = at n a.now.fires i j || at n b.now.fires i j
step_fires (Star a) n own i j = joint n own a.now.fires i i j
step_fires (Hold truths a) n own i j = at n a.now.fires i j && throughout truths i j
step_fires (Scope a x h) n own i j = aborted n x.now.covers a.now.alive a.now.fires h.now.fires i j

pub record IsCovers (step : Step) (n : ℕ) (grid : List (List Bool)) : Type 0 where
  pub entries : (i j : ℕ) → i ≤ j → j ≤ n → at n grid i j ≡ step_covers step n grid i j

pub record IsAlive (step : Step) (n : ℕ) (own grid : List (List Bool)) : Type 0 where
  pub entries : (i j : ℕ) → i ≤ j → j ≤ n → at n grid i j ≡ step_alive step n own i j

pub record IsFires (step : Step) (n : ℕ) (own grid : List (List Bool)) : Type 0 where
  pub entries : (i j : ℕ) → i ≤ j → j ≤ n → at n grid i j ≡ step_fires step n own i j

-- the chart of a node, from those of its parts
pub record IsChart (step : Step) (n : ℕ) (chart : Chart) : Type 0 where
  pub covered : IsCovers step n chart.covers
  pub lives : IsAlive step n chart.covers chart.alive
  pub fired : IsFires step n chart.covers chart.fires

-- the chart tells of each stretch of the run
pub record Tells (v : List ℕ) (a : ℕ) (e : Tree) (chart : Chart) : Type 0 where
  pub covers : (i j : ℕ) → i ≤ j → j ≤ length v → at (length v) chart.covers i j ≡ covers e v i j
  pub alive : (i j : ℕ) → i ≤ j → j ≤ length v → at (length v) chart.alive i j ≡ alive e v i j
  pub fires : (i j : ℕ) → i ≤ j → j ≤ length v → at (length v) chart.fires i j ≡ fires e v i j a

-- the step is the node's: its charts tell of the node's parts
abbrev pub IsStepOf : List ℕ → ℕ → Tree → Step → Type 0
IsStepOf v a (tree.Empty spot) Empty = Unit {0}
IsStepOf v a (tree.Action spot b) (Action asked) = asked ≡ nat_eq a b
IsStepOf v a (tree.Terminal spot p t) (Terminal truths) = truths ≡ map (holds t) v
IsStepOf v a (tree.Seq spot e f) (Seq b c) = Tells v a e b.now × Tells v a f c.now
IsStepOf v a (tree.Choice spot e f) (Choice b c) = Tells v a e b.now × Tells v a f c.now
IsStepOf v a (tree.Star spot e) (Star b) = Tells v a e b.now
IsStepOf v a (tree.Hold spot t e) (Hold truths b) = (truths ≡ map (holds t) v) × Tells v a e b.now
IsStepOf v a (tree.Scope spot s e x h) (Scope b c d) = Tells v a e b.now × Tells v a x c.now × Tells v a h d.now
IsStepOf v a _ _ = ⊥

abbrev pub number_of : Tree → ℕ
number_of (tree.Empty at) = at.number
number_of (tree.Terminal at p t) = at.number
number_of (tree.Action at b) = at.number
number_of (tree.Seq at e f) = at.number
number_of (tree.Choice at e f) = at.number
number_of (tree.Star at e) = at.number
number_of (tree.Hold at t e) = at.number
number_of (tree.Scope at s e x h) = at.number

-- the list of charts has that of the node: those of the nodes top - 1, top - 2, .. stand in this order
pub record IsCharted (v : List ℕ) (a top : ℕ) (charts : List Chart) (e : Tree) : Type 0 where
  pub below : number_of e < top
  pub there : top ≤ length charts + number_of e
  pub tells : (chart : Chart) → slice_get charts (top - (number_of e + 1)) ≡ Some chart → Tells v a e chart

-- the list has the charts of the node and of all nodes below it
abbrev pub AreCharted : List ℕ → ℕ → ℕ → List Chart → Tree → Type 0
AreCharted v a top charts (tree.Empty at) = IsCharted v a top charts (tree.Empty at)
AreCharted v a top charts (tree.Terminal at p t) = IsCharted v a top charts (tree.Terminal at p t)
AreCharted v a top charts (tree.Action at b) = IsCharted v a top charts (tree.Action at b)
AreCharted v a top charts (tree.Seq at e f) = IsCharted v a top charts (tree.Seq at e f)
    × AreCharted v a top charts e × AreCharted v a top charts f
AreCharted v a top charts (tree.Choice at e f) = IsCharted v a top charts (tree.Choice at e f)
    × AreCharted v a top charts e × AreCharted v a top charts f
AreCharted v a top charts (tree.Star at e) = IsCharted v a top charts (tree.Star at e) × AreCharted v a top charts e
AreCharted v a top charts (tree.Hold at t e) = IsCharted v a top charts (tree.Hold at t e) × AreCharted v a top charts e
AreCharted v a top charts (tree.Scope at s e x h) = IsCharted v a top charts (tree.Scope at s e x h)
    × AreCharted v a top charts e × AreCharted v a top charts x × AreCharted v a top charts h

-- the list has the charts of the node's parts
abbrev pub PartsCharted : List ℕ → ℕ → ℕ → List Chart → Tree → Type 0
PartsCharted v a top charts (tree.Empty at) = Unit {0}
PartsCharted v a top charts (tree.Terminal at p t) = Unit {0}
PartsCharted v a top charts (tree.Action at b) = Unit {0}
PartsCharted v a top charts (tree.Seq at e f) = AreCharted v a top charts e × AreCharted v a top charts f
PartsCharted v a top charts (tree.Choice at e f) = AreCharted v a top charts e × AreCharted v a top charts f
PartsCharted v a top charts (tree.Star at e) = AreCharted v a top charts e
PartsCharted v a top charts (tree.Hold at t e) = AreCharted v a top charts e
PartsCharted v a top charts (tree.Scope at s e x h) =
    AreCharted v a top charts e × AreCharted v a top charts x × AreCharted v a top charts h

-- the list has gained the charts of the node and of all nodes below it
pub record Charts (v : List ℕ) (a top : ℕ) (old new : List Chart) (e : Tree) : Type 0 where
  pub kept : (k : ℕ) → k < length old → slice_get new k ≡ slice_get old k
  pub grown : length new ≡ length old + visit_count e
  pub charted : AreCharted v a top new e

-- the list has gained the chart of the node
pub record Gains (v : List ℕ) (a top : ℕ) (old new : List Chart) (e : Tree) : Type 0 where
  pub kept : (k : ℕ) → k < length old → slice_get new k ≡ slice_get old k
  pub grown : length new ≡ length old + 1
  pub charted : IsCharted v a top new e
