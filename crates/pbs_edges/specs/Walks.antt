-- Double walks, and which scopes they refuse.
use Rattle.std.specs.Prelude.{◌≡◌, ℕ, true, ◌⊎◌, List, [], ◌∷◌}
use Rattle.pbs_ast.specs.Trees.{Tree, fits}
use Rattle.pbs_edges.specs.Edges.{ScopedEdge, IsStart, IsFollow, Aborts, Enters, LiesInBody, Leaves}

-- d aborts no scope that e leaves without aborting it
abbrev pub AbortsAgree : ScopedEdge → ScopedEdge → Type 0
AbortsAgree d e = (s : ℕ) → Aborts d s → Leaves e s → (Aborts e s → ⊥) → ⊥

-- the effective terms of two places can be true in one vector
abbrev pub CanOpenTogether : Tree → ℕ → ℕ → Type 0
CanOpenTogether main p q = (v : ℕ) × (fits p main v ≡ true) × (fits q main v ≡ true)

-- what lets two edges be taken in one step
pub record IsJointStep (main : Tree) (d e : ScopedEdge) : Type 0 where
  pub first_follow : IsFollow main d
  pub second_follow : IsFollow main e
  pub terms : CanOpenTogether main d.from e.from
  pub aborts : AbortsAgree d e
  pub aborts_back : AbortsAgree e d

-- two lists of edges, the last edge first
pub data DoubleWalk (main : Tree) : List ScopedEdge → List ScopedEdge → Type 0 where
  begin : {d e : ScopedEdge} → IsStart main d → IsStart main e → DoubleWalk main (d ∷ []) (e ∷ [])
  step : {d e b c : ScopedEdge} {bs cs : List ScopedEdge} → DoubleWalk main (b ∷ bs) (c ∷ cs) → d.from ≡ b.to → e.from
      ≡ c.to → IsJointStep main d e
      → DoubleWalk main (d ∷ (b ∷ bs)) (e ∷ (c ∷ cs))

-- some double walk ends in p and q, in this order
abbrev pub Reaches : Tree → ℕ → ℕ → Type 0
Reaches main p q = (d e : ScopedEdge) × (ds es : List ScopedEdge) × DoubleWalk main (d ∷ ds) (e ∷ es) × (d.to ≡ p) ×
    (e.to ≡ q)

abbrev pub Together : Tree → ℕ → ℕ → Type 0
Together main p q = Reaches main p q ⊎ Reaches main q p

-- some double walk has a last step in which one edge lies inside the body of s and the other enters s
abbrev pub IsRefused : Tree → ℕ → Type 0
IsRefused main s = (d e : ScopedEdge) × (ds es : List ScopedEdge) × DoubleWalk main (d ∷ ds) (e ∷ es)
    × ((LiesInBody d s × Enters e s) ⊎ (Enters d s × LiesInBody e s))

-- no scope is refused
abbrev pub BreaksNoScope : Tree → Type 0
BreaksNoScope main = (s : ℕ) → IsRefused main s → ⊥
