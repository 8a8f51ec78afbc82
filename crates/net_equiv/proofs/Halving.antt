-- The variables of two wires, from the walks over their cones.
use Rattle.std.proofs.Common.{inl, inr, ℕ, ◌<◌, ◌≤◌, Bool, List, [], length, Option}
use Rattle.net_core.specs.declared.gate.Wire.{Wire}
use Rattle.net_core.specs.declared.gate.Gate as gate
use Rattle.net_equiv.specs.declared.answer.VarName.{VarName}
use Rattle.net_equiv.specs.declared.answer.Comparison.{Comparison}
use Rattle.net_equiv.specs.declared.answer.Difference.{Difference}
use Rattle.net_equiv.specs.declared.halves.Half.{Half}
use Rattle.net_equiv.specs.declared.cone.Cone.{Cone}
use Rattle.net_equiv.specs.Cones.{Has}
use Rattle.net_equiv.specs.inner.Walking.{name_at, Adds, IsClosed}
use Rattle.net_equiv.specs.inner.Halves.{IsFilledFor, IsHalfOutcome, IsHalfWide, IsToldBy, LiesInEither, LiesInHalf}
use Rattle.net_equiv.proofs.Adding.{adds_then, adds_wider, marks_none}
use Rattle.net_equiv.proofs.Visiting.{cone_visited, has_meant, visited_kept}

pub closed_kept : (gates : List gate.Gate) (name_of : ℕ → VarName) (root : Wire) (m : List Bool) (N : VarName → Type 0)
    (v v' : List VarName) → Adds N v v' → IsClosed gates name_of root m v → IsClosed gates name_of root m v'
closed_kept gates name_of root m N v v' adds closed = record {
  long = closed.long;
  root_visited =
      visited_kept name_of (λ w. ⊥) N m m v v' root (marks_none (λ w. ⊥) m) adds closed.root_visited;
  pins = record {
    each = λ k g le marked at. record {
      each = λ w pin.
          visited_kept name_of (λ u. ⊥) N m m v v' w (marks_none (λ u. ⊥) m) adds
          ((closed.pins.each k g le marked at).each w pin);
    };
  };
}

pub filled_kept : (half : Half) (N : VarName → Type 0) (v v' : List VarName) (cone : Cone) → Adds N v v'
    → IsFilledFor half v cone → IsFilledFor half v' cone
filled_kept half N v v' cone adds filled = record {
  closed = closed_kept half.gates.now (name_at half.names.now) half.root cone.marks.items N v v' adds filled.closed;
  listed = filled.listed;
  sorted = filled.sorted;
  known_long = filled.known_long;
}

module _ (a b : Half) (v v' : List VarName) (a_adds : Adds (LiesInHalf a) [] v) (b_adds : Adds (LiesInHalf b) v v') where
  a_wider : Adds (LiesInEither a b) [] v
  a_wider = adds_wider (LiesInHalf a) (LiesInEither a b) [] v (λ x l. inl l) a_adds

  both_wider : Adds (LiesInEither a b) [] v'
  both_wider =
      adds_then (LiesInEither a b) [] v v' a_wider
      (adds_wider (LiesInHalf b) (LiesInEither a b) v v' (λ x l. inr l) b_adds)

  pub half_wide_b : 16 < length v' → IsHalfWide a b
  half_wide_b many =
      record { vars = v'; variables = has_meant (LiesInEither a b) v' both_wider; many = many }

  leaf_has : (half : Half) (m : List Bool) (u : List VarName)
      → IsClosed half.gates.now (name_at half.names.now) half.root m u → (x : VarName) → LiesInHalf half x → Has u x
  leaf_has half m u closed x leaf =
      (cone_visited half.gates.now half.root (name_at half.names.now) m u closed.root_visited closed.pins leaf.leaf
      leaf.meant).added x leaf.named

  pub half_outcome : (c : Comparison) (ma mb : List Bool) (told : Option Difference)
      → IsClosed a.gates.now (name_at a.names.now) a.root ma v → IsClosed b.gates.now (name_at b.names.now) b.root mb v'
      → length v' ≤ 16 → IsToldBy a b c v' told → IsHalfOutcome a b c told
  half_outcome c ma mb told closed_a closed_b few is_told = record {
    vars = v';
    variables = record {
      some = has_meant (LiesInEither a b) v' both_wider;
      all = λ x l. elim l [
        | inl p ↦ b_adds.kept x (leaf_has a ma v closed_a x p)
        | inr p ↦ leaf_has b mb v' closed_b x p
      ];
    };
    few = few;
    is_told = is_told;
  }

pub half_wide_a : (a b : Half) (v : List VarName) → Adds (LiesInHalf a) [] v → 16 < length v → IsHalfWide a b
half_wide_a a b v adds many = record {
  vars = v;
  variables = has_meant (LiesInEither a b) v
      (adds_wider (LiesInHalf a) (LiesInEither a b) [] v (λ x l. inl l) adds);
  many = many;
}
