-- What the code answers for terms.
use Rattle.std.specs.Prelude.{ℕ, ◌≡◌, ◌≤◌, ◌+◌, List, [], ◌∷◌, length, map}
use Rattle.bool_terms.specs.Terms.{Term, term_of, term_nodes}
use Rattle.bool_terms.specs.declared.Term as terms
use Rattle.pbs_expand.specs.declared.terms.Connective.{Connective}
use Rattle.pbs_expand.specs.declared.terms.Written.{Written}
use Rattle.pbs_expand.specs.declared.terms.Many.{Many}
use Rattle.pbs_expand.specs.Written.{joined}

pub record IsWritten (t : Term) (room : ℕ) (w : Written) : Type 0 where
  pub term : term_of w.term ≡ t
  pub nodes : w.nodes ≡ term_nodes t
  pub fits : w.nodes ≤ room

-- the terms joined, whatever the number of levels
pub record IsJoined (by : Connective) (ts : List Term) (t : terms.Term) : Type 0 where
  pub joins : (room : ℕ) → length ts ≤ room → term_of t ≡ joined room by ts

-- the nodes of the terms joined, and one more
abbrev pub weight : List Term → ℕ
weight [] = 0
weight (t ∷ ts) = term_nodes t + 1 + weight ts

pub record AreWritten (ts : List Term) (room : ℕ) (m : Many) : Type 0 where
  pub terms : map term_of m.terms.items ≡ ts
  pub nodes : m.nodes ≡ weight ts
  pub fits : m.nodes ≤ room + 1

-- the terms of all bits of a bus
pub record AreLiterals (ts : List Term) (m : Many) : Type 0 where
  pub terms : map term_of m.terms.items ≡ ts
  pub nodes : m.nodes ≡ weight ts
