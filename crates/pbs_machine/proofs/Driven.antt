-- Signals over the rows of a stretch without resets.
use Rattle.std.proofs.Common.{◌≡◌, ℕ, zero, suc, Bool, true, false, not, ◌&&◌, ◌||◌, nat_eq, List, slice_index, refl}
use Rattle.std.proofs.Common.{◌∙◌, ap}
use Rattle.std.proofs.lemmas.Bool.{and_parts, eq-eqb, or_left, or_right}
use Rattle.bool_terms.specs.Terms.{holds}
use Rattle.pbs_ast.specs.Trees.{Tree, Empty, Terminal, Action, Seq, Choice, Star, Hold, Scope, has_place, is_place}
use Rattle.pbs_ast.specs.Trees.{nullable}
use Rattle.pbs_machine.specs.Rows.{ends, stays, started, right_start, body_start}
use Rattle.pbs_derive.proofs.Shapes.{PlacesOnce}
use Rattle.pbs_derive.proofs.Positions.{or_elim}

-- the register of each place in e takes the start bit of its terminal, in each row
abbrev pub Driven : Tree → (ℕ → ℕ → Bool) → (ℕ → ℕ) → (ℕ → Bool) → (ℕ → Bool) → (ℕ → Bool) → Type 0
Driven (Empty spot) old input outer start keep = Unit {0}
Driven (Action spot a) old input outer start keep = Unit {0}
Driven (Terminal spot p t) old input outer start keep = (k : ℕ) → old (suc k) p ≡ start k
Driven (Seq spot e f) old input outer start keep =
    Driven e old input outer start keep
    × Driven f old input outer (λ k. right_start (start k) (keep k) (ends e (old k) (input k) (outer k)) (nullable e))
    keep
Driven (Choice spot e f) old input outer start keep = Driven e old input outer start keep
    × Driven f old input outer start keep
Driven (Star spot e) old input outer start keep =
    Driven e old input outer (λ k. body_start (start k) (keep k) (ends e (old k) (input k) (outer k))) keep
Driven (Hold spot t e) old input outer start keep = Driven e old input (λ k. outer k && holds t (input k)) start keep
Driven (Scope spot s e c h) old input outer start keep =
    Driven e old input outer start (λ k. keep k && not (ends c (old k) (input k) (outer k)))
    × Driven c old input outer start (λ k. (keep k && not (ends c (old k) (input k) (outer k))) && stays e (old k)
    (input k) (outer k))
    × Driven h old input outer (λ k. ends c (old k) (input k) (outer k) && keep k) keep

-- only a place of the tree is started
started_has : (e : Tree) (p : ℕ) (old : ℕ → Bool) (x : ℕ) (outer start keep : Bool)
    → started e (is_place p) old x outer start keep ≡ true → has_place p e ≡ true
started_has (Empty spot) p old x outer start keep h = h
started_has (Action spot a) p old x outer start keep h = h
started_has (Terminal spot q t) p old x outer start keep h = (and_parts (nat_eq p q) start h).0
started_has (Seq spot e f) p old x outer start keep h =
    or_elim _ _ h (λ l. or_left _ _ (started_has e p old x outer start keep l))
    (λ r. or_right _ _ (started_has f p old x outer (right_start start keep (ends e old x outer) (nullable e)) keep r))
started_has (Choice spot e f) p old x outer start keep h =
    or_elim _ _ h (λ l. or_left _ _ (started_has e p old x outer start keep l))
    (λ r. or_right _ _ (started_has f p old x outer start keep r))
started_has (Star spot e) p old x outer start keep h = started_has e p old x outer
    (body_start start keep (ends e old x outer)) keep h
started_has (Hold spot t e) p old x outer start keep h = started_has e p old x (outer && holds t x) start keep h
started_has (Scope spot s e c a) p old x outer start keep h =
    let here = has_place p e || has_place p c in
    or_elim _ _ h
    (λ l. or_left here (has_place p a) (or_elim _ _ l
    (λ b. or_left (has_place p e) (has_place p c)
    (started_has e p old x outer start (keep && not (ends c old x outer)) b))
    (λ t. or_right (has_place p e) (has_place p c)
    (started_has c p old x outer start ((keep && not (ends c old x outer)) && stays e old x outer) t))))
    (λ r. or_right here (has_place p a) (started_has a p old x outer (ends c old x outer && keep) keep r))

left_only : (x y : Bool) → (y ≡ true → ⊥) → (x || y) ≡ x
left_only true y f = refl
left_only false true f = absurd (f refl)
left_only false false f = refl

right_only : (x y : Bool) → (x ≡ true → ⊥) → (x || y) ≡ y
right_only true y f = absurd (f refl)
right_only false y f = refl

-- where each place stands once, registers that take the machine's next values are driven
pub driven : (e : Tree) (old : ℕ → ℕ → Bool) (input : ℕ → ℕ) (outer start keep : ℕ → Bool) → PlacesOnce e
    → ((k p : ℕ) → has_place p e ≡ true → old (suc k) p ≡ started e (is_place p) (old k) (input k) (outer k) (start k)
    (keep k))
    → Driven e old input outer start keep
driven (Empty spot) old input outer start keep once next = tt
driven (Action spot a) old input outer start keep once next = tt
driven (Terminal spot p t) old input outer start keep once next =
    λ k. next k p (eq-eqb p p refl) ∙ ap (λ b. b && start k) (eq-eqb p p refl)
driven (Seq spot e f) old input outer start keep once next = (
  driven e old input outer start keep once.0 (λ k p h.
      next k p (or_left _ _ h) ∙ left_only _ _
      (λ g. once.2 p h (started_has f p (old k) (input k) (outer k) _ (keep k) g))),
  driven f old input outer _ keep once.1 (λ k p h.
      next k p (or_right _ _ h) ∙ right_only _ _
      (λ g. once.2 p (started_has e p (old k) (input k) (outer k) (start k) (keep k) g) h)),
)
driven (Choice spot e f) old input outer start keep once next = (
  driven e old input outer start keep once.0 (λ k p h.
      next k p (or_left _ _ h) ∙ left_only _ _
      (λ g. once.2 p h (started_has f p (old k) (input k) (outer k) (start k) (keep k) g))),
  driven f old input outer start keep once.1 (λ k p h.
      next k p (or_right _ _ h) ∙ right_only _ _
      (λ g. once.2 p (started_has e p (old k) (input k) (outer k) (start k) (keep k) g) h)),
)
driven (Star spot e) old input outer start keep once next = driven e old input outer _ keep once next
driven (Hold spot t e) old input outer start keep once next = driven e old input _ start keep once next
driven (Scope spot s e c a) old input outer start keep once next = (
  driven e old input outer start _ once.0 (λ k p h.
      next k p (or_left _ _ (or_left _ _ h))
      ∙ (left_only _ _ (λ g. once.4 p h (started_has a p (old k) (input k) (outer k) _ (keep k) g))
      ∙ left_only _ _ (λ g. once.3 p h (started_has c p (old k) (input k) (outer k) (start k) _ g)))),
  driven c old input outer start _ once.1 (λ k p h.
      next k p (or_left _ _ (or_right _ _ h))
      ∙ (left_only _ _ (λ g. once.5 p h (started_has a p (old k) (input k) (outer k) _ (keep k) g))
      ∙ right_only _ _ (λ g. once.3 p (started_has e p (old k) (input k) (outer k) (start k) _ g) h))),
  driven a old input outer _ keep once.2 (λ k p h.
      next k p (or_right _ _ h)
      ∙ right_only _ _ (λ g.
      let quiet = keep k && not (ends c (old k) (input k) (outer k)) in
      let held = quiet && stays e (old k) (input k) (outer k) in
      or_elim (started e (is_place p) (old k) (input k) (outer k) (start k) quiet)
      (started c (is_place p) (old k) (input k) (outer k) (start k) held) g
      (λ b. once.4 p (started_has e p (old k) (input k) (outer k) (start k) quiet b) h)
      (λ t. once.5 p (started_has c p (old k) (input k) (outer k) (start k) held t) h))),
)

-- The run of the machine for main from reset.

-- the input vector of a row; in row 0 anything
abbrev pub vector_in_row : List ℕ → ℕ → ℕ → ℕ
vector_in_row v any zero = any
vector_in_row v any (suc k) = slice_index v k

-- the start bit of main: the reset row alone
abbrev pub main_start : ℕ → Bool
main_start zero = true
main_start (suc k) = false

-- the outer bit of main: reset is off
abbrev pub main_outer : ℕ → Bool
main_outer zero = false
main_outer (suc k) = true

abbrev pub main_keep : ℕ → Bool
main_keep k = true

-- the registers before a row; before row 0 anything
abbrev pub registers_before : Tree → List ℕ → (ℕ → Bool) → ℕ → ℕ → ℕ → Bool
registers_before main v anything any zero p = anything p
registers_before main v anything any (suc k) p =
    started main (is_place p) (λ q. registers_before main v anything any k q) (vector_in_row v any k) (main_outer k)
    (main_start k) (main_keep k)
