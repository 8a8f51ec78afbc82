-- Items read from a position on: where each of them begins, and what the charts over the items tell.
use Rattle.std.specs.Prelude.{◌≡◌, ◌↔◌, ℕ, zero, suc, ◌+◌, ◌≤◌, ◌<◌, Bool, true, false, not, ◌&&◌, ◌||◌, nat_eq, nat_lt}
use Rattle.std.specs.Prelude.{List, [], ◌∷◌, length, slice_get, slice_index, Option, Some, None}
use Rattle.bool_terms.specs.Terms.{Term, holds}
use Rattle.pbs_ast.specs.Trees.{Tree}
use Rattle.pbs_ast.specs.Trees as tree
use Rattle.pbs_derive.specs.Derivations.{trips, some_after, all_hold}
use Rattle.pbs_covers.specs.Grids.{entry, at}
use Rattle.pbs_explain.specs.declared.derivation.Item.{Item}
use Rattle.pbs_explain.specs.declared.derivation.Item.TheVariants.{Take, Cut}
use Rattle.pbs_explain.specs.declared.step.Chart.{Chart}
use Rattle.pbs_explain.specs.declared.step.Step.{Step}
use Rattle.pbs_explain.specs.declared.step.Step.TheVariants.{Empty, Action, Terminal, Seq, Choice, Star, Hold}
use Rattle.pbs_explain.specs.Explained.{Derives, Ends}
use Rattle.pbs_explain.specs.Firsts.{least_after}

-- the position after an item that begins at i
abbrev pub next : ℕ → Item → ℕ
next i (Take p) = i + 1
next i (Cut s m) = m

-- the position after all the items
abbrev pub moved : ℕ → List Item → ℕ
moved i [] = i
moved i (x ∷ xs) = moved (next i x) xs

-- the items lead from i to n, and each of them moves on
abbrev pub leads : ℕ → List Item → ℕ → Bool
leads i [] n = nat_eq i n
leads i (x ∷ xs) n = nat_lt i (next i x) && leads (next i x) xs n

-- the position at which item c begins
abbrev pub reached : ℕ → List Item → ℕ → ℕ
reached i [] c = i
reached i (x ∷ xs) zero = i
reached i (x ∷ xs) (suc c) = reached (next i x) xs c

-- the items from c up to d, without d
abbrev pub between : List Item → ℕ → ℕ → List Item
between [] c d = []
between (x ∷ xs) zero zero = []
between (x ∷ xs) zero (suc d) = x ∷ between xs zero d
between (x ∷ xs) (suc c) zero = []
between (x ∷ xs) (suc c) (suc d) = between xs c d

abbrev pub is_take : ℕ → Option Item → Bool
is_take p None = false
is_take p (Some (Take q)) = nat_eq q p
is_take p (Some (Cut s m)) = false

abbrev pub is_cut : ℕ → Option Item → Bool
is_cut s None = false
is_cut s (Some (Take q)) = false
is_cut s (Some (Cut q m)) = nat_eq q s

-- m is the abort position from i: the first position up to m that trips
abbrev pub aborts : Tree → Tree → List ℕ → ℕ → ℕ → Bool
aborts e x v i m = some_after i m (trips e x v i) && nat_eq (least_after i m (trips e x v i)) m

-- item c is the place's, and its vector makes the term true
abbrev pub takes_at : ℕ → Term → List ℕ → List Item → ℕ → Bool
takes_at p t v items c = is_take p (slice_get items c) && holds t (slice_index v (reached 0 items c))

-- item c cuts scope s at its abort position
abbrev pub cuts_at : ℕ → Tree → Tree → List ℕ → List Item → ℕ → Bool
cuts_at s e x v items c =
    is_cut s (slice_get items c) && aborts e x v (reached 0 items c) (reached 0 items (c + 1))

-- the body's grid where nothing aborts, and the after part's behind an item that cuts
abbrev pub scoped : Tree → Tree → List ℕ → List Item → List Bool → List (List Bool) → List (List Bool) → ℕ → ℕ → Bool
scoped e x v items cuts body after c d =
    (not (some_after (reached 0 items c) (reached 0 items d) (trips e x v (reached 0 items c)))
    && at (length items) body c d)
    || (nat_lt c d && (entry cuts c && at (length items) after (c + 1) d))

-- the items lead through the whole run, and the positions are those at which they begin, and the end
pub record Follows (v : List ℕ) (items : List Item) (positions : List ℕ) : Type 0 where
  pub few : length v ≤ 128
  pub short : length items ≤ 128
  pub leads : leads 0 items (length v) ≡ true
  pub filled : length positions ≡ length items + 1
  pub exact : (c : ℕ) → c ≤ length items → slice_get positions c ≡ Some (reached 0 items c)
  pub order : (c d : ℕ) → c ≤ d → d ≤ length items → reached 0 items c ≤ reached 0 items d
  pub rising : (c d : ℕ) → c < d → d ≤ length items → reached 0 items c < reached 0 items d
  pub within : (c : ℕ) → c ≤ length items → reached 0 items c ≤ length v

-- the chart tells of each part of the items whether it is a derivation, and whether it ends at the node
pub record Reads (v : List ℕ) (items : List Item) (node : ℕ) (e : Tree) (chart : Chart) : Type 0 where
  pub covers : (c d : ℕ) → c ≤ d → d ≤ length items → (at (length items) chart.covers c d ≡ true)
      ↔ Derives e v (reached 0 items c) (reached 0 items d) (between items c d)
  pub ends : (c d : ℕ) → c ≤ d → d ≤ length items → (at (length items) chart.fires c d ≡ true)
      ↔ Ends e v (reached 0 items c) (reached 0 items d) (between items c d) node

-- the step is the node's: its charts tell of the node's parts
abbrev pub IsReadStep : List ℕ → List Item → ℕ → Tree → Step → Type 0
IsReadStep v items node (tree.Empty at) Empty = Unit {0}
IsReadStep v items node (tree.Action at b) (Action asked) = asked ≡ nat_eq at.number node
IsReadStep v items node (tree.Terminal at p t) (Terminal truths) =
    (c : ℕ) → c < length items → entry truths c ≡ takes_at p t v items c
IsReadStep v items node (tree.Seq at e f) (Seq a b) = Reads v items node e a.now × Reads v items node f b.now
IsReadStep v items node (tree.Choice at e f) (Choice a b) = Reads v items node e a.now × Reads v items node f b.now
IsReadStep v items node (tree.Star at e) (Star a) = Reads v items node e a.now
IsReadStep v items node (tree.Hold at t e) (Hold truths a) =
    ((c : ℕ) → c < length items → entry truths c ≡ all_hold t v (reached 0 items c) (reached 0 items (c + 1)))
    × Reads v items node e a.now
IsReadStep v items node _ _ = ⊥
