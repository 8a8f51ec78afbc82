-- Where a tree begins its first places stand.
use Rattle.std.proofs.Common.{◌≡◌, ℕ, ◌-◌, ◌<◌, true, ◌&&◌, ◌||◌, inl, inr, List, [], ◌∷◌, arith, sym, subst}
use Rattle.std.specs.Prelude.{nat_eq}
use Rattle.std.proofs.lemmas.Bool.{false≢true, eqb-true, and_parts, or_cases}
use Rattle.pbs_ast.specs.Trees.{Tree, Empty, Terminal, Action, Seq, Choice, Star, Hold, Scope}
use Rattle.pbs_derive.specs.Derivations.{covers, alive, stands, trips, all_hold, repeats, some_within}
use Rattle.pbs_edges.specs.Edges.{Round, Body, Trap, First, first_terminal, first_left, first_right, first_either}
use Rattle.pbs_edges.specs.Edges.{first_or, first_star, first_hold, first_body, first_trap}
use Rattle.pbs_derive.proofs.Positions.{split_to}
use Rattle.pbs_derive.proofs.EmptyStretch.{covers_to_nullable}
use Rattle.pbs_edges.proofs.Tests.{scope-gives}

module _ (v : List ℕ) where
  -- a place that stands where the tree begins is a first place
  pub first_from_stands : (e : Tree) (i p : ℕ) → stands e v i i p ≡ true → (rs : List Round) × First e p rs
  first_from_stands (Empty n) i p h = absurd (false≢true h)
  first_from_stands (Terminal n q t) i p h =
      let same : p ≡ q = eqb-true p q (and_parts (nat_eq p q) (nat_eq i i) h).0 in
      ([], subst (λ r. First (Terminal n q t) r []) (sym same) first_terminal)
  first_from_stands (Action n a) i p h = absurd (false≢true h)
  first_from_stands (Seq n e f) i p h = elim
      (or_cases (stands e v i i p) (some_within i i (λ m. covers e v i m && stands f v m i p)) h) [
        | inl a ↦ let r = first_from_stands e i p a in (r.0, first_left r.1)
        | inr b ↦
            let c = split_to i i (λ m. covers e v i m) (λ m. stands f v m i p) b in
            let same : c.0 ≡ i = omega arith in
            let r = first_from_stands f i p (subst (λ m. stands f v m i p ≡ true) same c.4) in
            (r.0, first_right (covers_to_nullable e v i (subst (λ m. covers e v i m ≡ true) same c.3)) r.1)
      ]
  first_from_stands (Choice n e f) i p h = elim (or_cases (stands e v i i p) (stands f v i i p) h) [
    | inl a ↦ let r = first_from_stands e i p a in (r.0, first_either r.1)
    | inr b ↦ let r = first_from_stands f i p b in (r.0, first_or r.1)
  ]
  first_from_stands (Star n e) i p h =
      let c = split_to i i (λ m. repeats (covers e v) (m - i) i m) (λ m. stands e v m i p) h in
      let same : c.0 ≡ i = omega arith in
      let r = first_from_stands e i p (subst (λ m. stands e v m i p ≡ true) same c.4) in
      (r.0, first_star r.1)
  first_from_stands (Hold n t e) i p h =
      let r = first_from_stands e i p (and_parts (stands e v i i p) (all_hold t v i i) h).0 in (r.0, first_hold r.1)
  first_from_stands (Scope n s e x h) i p g =
      elim (scope-gives i i (trips e x v i) (stands e v i i p || (stands x v i i p && alive e v i i))
      (λ m. stands h v m i p) g) [
        | inl a ↦ elim (or_cases (stands e v i i p) (stands x v i i p && alive e v i i) a.1) [
          | inl c ↦ let r = first_from_stands e i p c in (Body s ∷ r.0, first_body r.1)
          | inr d ↦ let r = first_from_stands x i p (and_parts (stands x v i i p) (alive e v i i) d).0 in
              (Trap s ∷ r.0, first_trap r.1)
        ]
        | inr b ↦ let f = b.2 in let l : i < b.0 = f.after in absurd (omega arith)
      ]
