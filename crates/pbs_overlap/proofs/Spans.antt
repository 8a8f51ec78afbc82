-- The span of a scope, by its number.
use Rattle.std.proofs.Common.{◌≡◌, ℕ, zero, suc, ◌+◌, ◌<◌, ◌≤◌, true, ◌⊎◌, inl, inr, List, [], ◌∷◌, ◌++◌, length}
use Rattle.std.proofs.Common.{Option, Some, None, refl, ◌∙◌, ap, arith, add-one}
use Rattle.std.specs.Prelude.{nat_eq, slice_get, slice_index}
use Rattle.std.specs.List.Sorted.{IsStrictlyIncreasing}
use Rattle.std.proofs.lemmas.Bool.{and_parts, eq-eqb, ne_eqb, cond-true, cond-false}
use Rattle.std.proofs.lemmas.Option.{same_Some}
use Rattle.pbs_base.specs.declared.refusal.Span.{Span}
use Rattle.pbs_ast.specs.Trees.{Tree, Empty, Terminal, Action, Seq, Choice, Star, Hold, Scope}
use Rattle.pbs_ast.specs.Sound.{visit_count, place_count, scope_count, or_else}
use Rattle.pbs_edges.proofs.Numbering.{numbered}
use Rattle.pbs_edges.proofs.Rounds.{pair_parts, scope_parts}
use Rattle.pbs_overlap.specs.declared.ranges.ScopeRange.{ScopeRange}
use Rattle.pbs_overlap.specs.Ranges.{number_of, ranges, scope_span}
use Rattle.pbs_overlap.proofs.Leaves.{length-ranges}
use Rattle.pbs_overlap.proofs.Around.{get-cases}

or_none : (a b : Option Span) → a ≡ None → b ≡ None → or_else a b ≡ None
or_none a b e f = ap (λ x. or_else x b) e ∙ f

or_first : (a b : Option Span) (span : Span) → a ≡ Some span → or_else a b ≡ Some span
or_first a b span e = ap (λ x. or_else x b) e

or_second : (a b : Option Span) (span : Span) → a ≡ None → b ≡ Some span → or_else a b ≡ Some span
or_second a b span e f = ap (λ x. or_else x b) e ∙ f

span_none : (e : Tree) (n b s0 s : ℕ) → numbered e n b s0 ≡ true → ((s < s0) ⊎ (s0 + scope_count e ≤ s))
    → scope_span s e ≡ None
span_none (Empty at) n b s0 s g o = refl
span_none (Terminal at p t) n b s0 s g o = refl
span_none (Action at a) n b s0 s g o = refl
span_none (Seq at e f) n b s0 s g o =
    let c = pair_parts at e f n b s0 g in
    or_none (scope_span s e) (scope_span s f)
    (span_none e (n + 1) b s0 s c.left (elim o [ inl l ↦ inl l | inr l ↦ inr (omega arith) ]))
    (span_none f (n + 1 + visit_count e) (b + place_count e) (s0 + scope_count e) s c.right
    (elim o [ inl l ↦ inl (omega arith) | inr l ↦ inr (omega arith) ]))
span_none (Choice at e f) n b s0 s g o =
    let c = pair_parts at e f n b s0 g in
    or_none (scope_span s e) (scope_span s f)
    (span_none e (n + 1) b s0 s c.left (elim o [ inl l ↦ inl l | inr l ↦ inr (omega arith) ]))
    (span_none f (n + 1 + visit_count e) (b + place_count e) (s0 + scope_count e) s c.right
    (elim o [ inl l ↦ inl (omega arith) | inr l ↦ inr (omega arith) ]))
span_none (Star at e) n b s0 s g o =
    span_none e (n + 1) b s0 s (and_parts (nat_eq at.number n) (numbered e (n + 1) b s0) g).1 o
span_none (Hold at t e) n b s0 s g o =
    span_none e (n + 1) b s0 s (and_parts (nat_eq at.number n) (numbered e (n + 1) b s0) g).1 o
span_none (Scope at t e x h) n b s0 s g o =
    let c = scope_parts at t e x h n b s0 g in
    let own = c.scope in
    let other : s ≡ t → ⊥ = λ q. elim o [ inl l ↦ omega arith | inr l ↦ omega arith ] in
    cond-false (nat_eq s t) (Some at.span) (or_else (scope_span s e) (or_else (scope_span s x) (scope_span s h)))
    (ne_eqb s t other)
    ∙ or_none (scope_span s e) (or_else (scope_span s x) (scope_span s h))
    (span_none e (n + 1) b (1 + s0) s c.body (elim o [ inl l ↦ inl (omega arith) | inr l ↦ inr (omega arith) ]))
    (or_none (scope_span s x) (scope_span s h)
    (span_none x (n + 1 + visit_count e) (b + place_count e) (1 + s0 + scope_count e) s c.trap
    (elim o [ inl l ↦ inl (omega arith) | inr l ↦ inr (omega arith) ]))
    (span_none h (n + 1 + visit_count e + visit_count x) (b + place_count e + place_count x)
    (1 + s0 + scope_count e + scope_count x) s c.after
    (elim o [ inl l ↦ inl (omega arith) | inr l ↦ inr (omega arith) ])))

pub span_at : (e : Tree) (n b s0 s k : ℕ) (r : ScopeRange) → numbered e n b s0 ≡ true → s ≡ s0 + k
    → slice_get (ranges e) k ≡ Some r → scope_span s e ≡ Some r.span
span_at (Empty at) n b s0 s k r g q h = absurd (cc)
span_at (Terminal at p t) n b s0 s k r g q h = absurd (cc)
span_at (Action at a) n b s0 s k r g q h = absurd (cc)
span_at (Seq at e f) n b s0 s k r g q h =
    let c = pair_parts at e f n b s0 g in
    let size = length-ranges e in
    elim (get-cases (ranges e) (ranges f) k r h) [
      | inl w ↦ or_first (scope_span s e) (scope_span s f) r.span (span_at e (n + 1) b s0 s k r c.left q w.1)
      | inr w ↦ or_second (scope_span s e) (scope_span s f) r.span
          (span_none e (n + 1) b s0 s c.left (inr (let a = w.1 in omega arith)))
          (span_at f (n + 1 + visit_count e) (b + place_count e) (s0 + scope_count e) s w.0 r c.right
          (let a = w.1 in omega arith) w.2)
    ]
span_at (Choice at e f) n b s0 s k r g q h =
    let c = pair_parts at e f n b s0 g in
    let size = length-ranges e in
    elim (get-cases (ranges e) (ranges f) k r h) [
      | inl w ↦ or_first (scope_span s e) (scope_span s f) r.span (span_at e (n + 1) b s0 s k r c.left q w.1)
      | inr w ↦ or_second (scope_span s e) (scope_span s f) r.span
          (span_none e (n + 1) b s0 s c.left (inr (let a = w.1 in omega arith)))
          (span_at f (n + 1 + visit_count e) (b + place_count e) (s0 + scope_count e) s w.0 r c.right
          (let a = w.1 in omega arith) w.2)
    ]
span_at (Star at e) n b s0 s k r g q h =
    span_at e (n + 1) b s0 s k r (and_parts (nat_eq at.number n) (numbered e (n + 1) b s0) g).1 q h
span_at (Hold at t e) n b s0 s k r g q h =
    span_at e (n + 1) b s0 s k r (and_parts (nat_eq at.number n) (numbered e (n + 1) b s0) g).1 q h
span_at (Scope at t e x h) n b s0 s zero r g q d =
    let c = scope_parts at t e x h n b s0 g in
    let own : s ≡ t = let o = c.scope in omega arith in
    let here : ScopeRange = record { span = at.span; body = number_of e; trap = number_of x; after = number_of h } in
    cond-true (nat_eq s t) (Some at.span) (or_else (scope_span s e) (or_else (scope_span s x) (scope_span s h)))
    (eq-eqb s t own)
    ∙ ap (λ (y : ScopeRange). Some y.span) (same_Some here r d)
span_at (Scope at t e x h) n b s0 s (suc k) r g q d =
    let c = scope_parts at t e x h n b s0 g in
    let own = c.scope in
    let size_e = length-ranges e in
    let size_x = length-ranges x in
    cond-false (nat_eq s t) (Some at.span) (or_else (scope_span s e) (or_else (scope_span s x) (scope_span s h)))
    (ne_eqb s t (λ z. omega arith))
    ∙ elim (get-cases (ranges e) (ranges x ++ ranges h) k r d) [
      | inl w ↦ or_first (scope_span s e) (or_else (scope_span s x) (scope_span s h)) r.span
          (span_at e (n + 1) b (1 + s0) s k r c.body (omega arith) w.1)
      | inr w ↦ or_second (scope_span s e) (or_else (scope_span s x) (scope_span s h)) r.span
          (span_none e (n + 1) b (1 + s0) s c.body (inr (let a = w.1 in omega arith)))
          (elim (get-cases (ranges x) (ranges h) w.0 r w.2) [
            | inl y ↦ or_first (scope_span s x) (scope_span s h) r.span
                (span_at x (n + 1 + visit_count e) (b + place_count e) (1 + s0 + scope_count e) s w.0 r c.trap
                (let a = w.1 in omega arith) y.1)
            | inr y ↦ or_second (scope_span s x) (scope_span s h) r.span
                (span_none x (n + 1 + visit_count e) (b + place_count e) (1 + s0 + scope_count e) s c.trap
                (inr (let a = w.1 in let z = y.1 in omega arith)))
                (span_at h (n + 1 + visit_count e + visit_count x) (b + place_count e + place_count x)
                (1 + s0 + scope_count e + scope_count x) s y.0 r c.after
                (let a = w.1 in let z = y.1 in omega arith) y.2)
          ])
    ]

-- numbers that rise are no more than the bound they stay below
rise_index : (xs : List ℕ) (k : ℕ) → IsStrictlyIncreasing xs → k < length xs → k ≤ slice_index xs k
rise_index xs zero up l = omega arith
rise_index xs (suc k) up l =
    let before = rise_index xs k up (omega arith) in
    let next : slice_index xs k < slice_index xs (suc k) = rw add-one at (up k (omega arith)) in
    omega arith

pub few_rising : (xs : List ℕ) (n : ℕ) → IsStrictlyIncreasing xs → ((k : ℕ) → k < length xs → slice_index xs k < n)
    → length xs ≤ n
few_rising [] n up below = omega arith
few_rising (x ∷ xs) n up below =
    let last = rise_index (x ∷ xs) (length xs) up (omega arith) in
    let b = below (length xs) (omega arith) in
    omega arith
