-- First places, last places and edges, each with the scopes round it.
use Rattle.std.specs.Prelude.{◌≡◌, ℕ, true, ◌⊎◌, List, [], ◌∷◌}
use Rattle.bool_terms.specs.Terms.{Term}
use Rattle.pbs_ast.specs.Trees.{Tree, Spot, Terminal, Seq, Choice, Star, Hold, Scope, nullable}

-- a scope round a place or a node, which lies in its body or in its trap
pub data Round : Type 0 where
  Body : (scope : ℕ) → Round
  Trap : (scope : ℕ) → Round

-- r is one of rs
abbrev pub Among : List Round → Round → Type 0
Among [] r = ⊥
Among (q ∷ rs) r = (q ≡ r) ⊎ Among rs r

-- p is a first place of the tree, and lies in the scopes rs of it, the outermost first
pub data First : Tree → ℕ → List Round → Type 0 where
  first_terminal : {at : Spot} {p : ℕ} {t : Term} → First (Terminal at p t) p []
  first_left : {at : Spot} {p : ℕ} {rs : List Round} {e f : Tree} → First e p rs → First (Seq at e f) p rs
  first_right : {at : Spot} {p : ℕ} {rs : List Round} {e f : Tree} → nullable e ≡ true → First f p rs → First
      (Seq at e f) p rs
  first_either : {at : Spot} {p : ℕ} {rs : List Round} {e f : Tree} → First e p rs → First (Choice at e f) p rs
  first_or : {at : Spot} {p : ℕ} {rs : List Round} {e f : Tree} → First f p rs → First (Choice at e f) p rs
  first_star : {at : Spot} {p : ℕ} {rs : List Round} {e : Tree} → First e p rs → First (Star at e) p rs
  first_hold : {at : Spot} {p : ℕ} {rs : List Round} {t : Term} {e : Tree} → First e p rs → First (Hold at t e) p rs
  first_body : {at : Spot} {p s : ℕ} {rs : List Round} {e x h : Tree} → First e p rs → First (Scope at s e x h) p
      (Body s ∷ rs)
  first_trap : {at : Spot} {p s : ℕ} {rs : List Round} {e x h : Tree} → First x p rs → First (Scope at s e x h) p
      (Trap s ∷ rs)

-- p is a last place of the tree, and lies in the scopes rs of it
pub data Last : Tree → ℕ → List Round → Type 0 where
  last_terminal : {at : Spot} {p : ℕ} {t : Term} → Last (Terminal at p t) p []
  last_right : {at : Spot} {p : ℕ} {rs : List Round} {e f : Tree} → Last f p rs → Last (Seq at e f) p rs
  last_left : {at : Spot} {p : ℕ} {rs : List Round} {e f : Tree} → Last e p rs → nullable f ≡ true → Last
      (Seq at e f) p rs
  last_either : {at : Spot} {p : ℕ} {rs : List Round} {e f : Tree} → Last e p rs → Last (Choice at e f) p rs
  last_or : {at : Spot} {p : ℕ} {rs : List Round} {e f : Tree} → Last f p rs → Last (Choice at e f) p rs
  last_star : {at : Spot} {p : ℕ} {rs : List Round} {e : Tree} → Last e p rs → Last (Star at e) p rs
  last_hold : {at : Spot} {p : ℕ} {rs : List Round} {t : Term} {e : Tree} → Last e p rs → Last (Hold at t e) p rs
  last_body : {at : Spot} {p s : ℕ} {rs : List Round} {e x h : Tree} → Last e p rs → Last (Scope at s e x h) p
      (Body s ∷ rs)
  last_after : {at : Spot} {p s : ℕ} {rs : List Round} {e x h : Tree} → Last h p rs → Last (Scope at s e x h) p rs
  last_trap : {at : Spot} {p s : ℕ} {rs : List Round} {e x h : Tree} → Last x p rs → nullable h ≡ true → Last
      (Scope at s e x h) p (Trap s ∷ rs)

-- a follow edge of the tree by the node n, with three lists of scopes: those in whose body or trap the node lies, those
-- at or below the node round the place that is left, and those below the node round the place that is reached
pub data Follow : Tree → (from to node : ℕ) → (above left entered : List Round) → Type 0 where
  follow_seq : {at : Spot} {p q : ℕ} {ls fs : List Round} {e f : Tree} → Last e p ls → First f q fs → Follow
      (Seq at e f) p q at.number [] ls fs
  follow_star : {at : Spot} {p q : ℕ} {ls fs : List Round} {e : Tree} → Last e p ls → First e q fs → Follow
      (Star at e) p q at.number [] ls fs
  follow_scope : {at : Spot} {p q s : ℕ} {ls fs : List Round} {e x h : Tree} → Last x p ls → First h q fs → Follow
      (Scope at s e x h) p q at.number [] (Trap s ∷ ls) fs
  within_left : {at : Spot} {p q n : ℕ} {rs ls fs : List Round} {e f : Tree} → Follow e p q n rs ls fs → Follow
      (Seq at e f) p q n rs ls fs
  within_right : {at : Spot} {p q n : ℕ} {rs ls fs : List Round} {e f : Tree} → Follow f p q n rs ls fs → Follow
      (Seq at e f) p q n rs ls fs
  within_either : {at : Spot} {p q n : ℕ} {rs ls fs : List Round} {e f : Tree} → Follow e p q n rs ls fs → Follow
      (Choice at e f) p q n rs ls fs
  within_or : {at : Spot} {p q n : ℕ} {rs ls fs : List Round} {e f : Tree} → Follow f p q n rs ls fs → Follow
      (Choice at e f) p q n rs ls fs
  within_star : {at : Spot} {p q n : ℕ} {rs ls fs : List Round} {e : Tree} → Follow e p q n rs ls fs → Follow
      (Star at e) p q n rs ls fs
  within_hold : {at : Spot} {p q n : ℕ} {rs ls fs : List Round} {t : Term} {e : Tree} → Follow e p q n rs ls fs → Follow
      (Hold at t e) p q n rs ls fs
  within_body : {at : Spot} {p q n s : ℕ} {rs ls fs : List Round} {e x h : Tree} → Follow e p q n rs ls fs → Follow
      (Scope at s e x h) p q n (Body s ∷ rs) ls fs
  within_trap : {at : Spot} {p q n s : ℕ} {rs ls fs : List Round} {e x h : Tree} → Follow x p q n rs ls fs → Follow
      (Scope at s e x h) p q n (Trap s ∷ rs) ls fs
  within_after : {at : Spot} {p q n s : ℕ} {rs ls fs : List Round} {e x h : Tree} → Follow h p q n rs ls fs → Follow
      (Scope at s e x h) p q n rs ls fs

pub record ScopedEdge : Type 0 where
  pub from : ℕ
  pub to : ℕ
  pub node : ℕ
  pub above : List Round
  pub left : List Round
  pub entered : List Round

-- it leads to p, aborts nothing, enters nothing and lies inside nothing
abbrev pub start_edge : ℕ → ScopedEdge
start_edge p = record { from = 0; to = p; node = 0; above = []; left = []; entered = [] }

abbrev pub IsStart : Tree → ScopedEdge → Type 0
IsStart main d = (p : ℕ) × (rs : List Round) × First main p rs × (d ≡ start_edge p)

abbrev pub IsFollow : Tree → ScopedEdge → Type 0
IsFollow main d = Follow main d.from d.to d.node d.above d.left d.entered

-- the place that is left lies in the trap of s, and the node is s or above s
abbrev pub Aborts : ScopedEdge → ℕ → Type 0
Aborts d s = Among d.left (Trap s)

-- s stands below the node, and the place that is reached lies in its body or its trap
abbrev pub Enters : ScopedEdge → ℕ → Type 0
Enters d s = Among d.entered (Body s) ⊎ Among d.entered (Trap s)

abbrev pub LiesInBody : ScopedEdge → ℕ → Type 0
LiesInBody d s = Among d.above (Body s)

-- the place that is left lies in the body or the trap of s
abbrev pub Leaves : ScopedEdge → ℕ → Type 0
Leaves d s = (Among d.above (Body s) ⊎ Among d.above (Trap s)) ⊎ (Among d.left (Body s) ⊎ Among d.left (Trap s))
