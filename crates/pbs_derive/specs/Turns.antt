-- Copies of a tree that stand one after another.
use Rattle.std.specs.Prelude.{◌≡◌, ℕ, ◌+◌, ◌<◌, ◌≤◌, true, List}
use Rattle.pbs_ast.specs.Trees.{Tree}
use Rattle.pbs_derive.specs.Derivations.{covers}

-- positions t 0 = i, t 1, .., t c = j, none falling, such that e covers each stretch from t s to t (s + 1)
pub record Leads (e : Tree) (v : List ℕ) (c : ℕ) (t : ℕ → ℕ) (i j : ℕ) : Type 0 where
  pub first : t 0 ≡ i
  pub last : t c ≡ j
  pub rising : (s : ℕ) → s < c → t s ≤ t (s + 1)
  pub covered : (s : ℕ) → s < c → covers e v (t s) (t (s + 1)) ≡ true

-- c copies of e, one after another, cover [i,j)
abbrev pub CoverInTurn : Tree → List ℕ → ℕ → ℕ → ℕ → Type 0
CoverInTurn e v c i j = (t : ℕ → ℕ) × Leads e v c t i j
