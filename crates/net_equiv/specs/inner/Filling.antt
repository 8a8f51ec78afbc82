-- What is kept of a cone from one comparison to the next.
use Rattle.std.specs.Prelude.{◌≡◌, ℕ, true, List, [], length}
use Rattle.std.specs.List.Sorted.{IsNonDecreasingBy}
use Rattle.net_core.specs.declared.gate.Wire.{Wire}
use Rattle.net_core.specs.declared.gate.Gate as gate
use Rattle.net_equiv.specs.declared.answer.VarName.{VarName}
use Rattle.net_equiv.specs.declared.cone.Cone.{Cone}
use Rattle.net_equiv.specs.inner.Walking.{is_marked, AreListed, IsClosed}

-- there is room for this many gates, and none is marked
pub record IsClear (count : ℕ) (cone : Cone) : Type 0 where
  pub marks_long : length cone.marks.items ≡ count
  pub known_long : length cone.known.items ≡ count
  pub empty : cone.listed.items ≡ []
  pub none : (k : ℕ) → is_marked cone.marks.items k ≡ true → ⊥

-- the gates of the wire's cone are marked, and listed in order
pub record IsFilled (gates : List gate.Gate) (name_of : ℕ → VarName) (root : Wire) (vars : List VarName) (cone : Cone)
    : Type 0 where
  pub closed : IsClosed gates name_of root cone.marks.items vars
  pub listed : AreListed cone.marks.items cone.listed.items
  pub sorted : IsNonDecreasingBy (λ n. n) cone.listed.items
  pub known_long : length cone.known.items ≡ length gates
