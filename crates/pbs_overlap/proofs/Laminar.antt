-- Of two scopes the one with the greater number lies in the body of the other, or after it.
use Rattle.std.proofs.Common.{◌≡◌, ℕ, zero, suc, ◌+◌, ◌<◌, ◌≤◌, true, not, ◌&&◌, ◌⊎◌, inl, inr, [], ◌++◌}
use Rattle.std.proofs.Common.{Some, refl, ◌∙◌, ap, subst, arith}
use Rattle.std.specs.Prelude.{nat_eq, slice_get}
use Rattle.std.proofs.lemmas.Bool.{false≢true, and_parts}
use Rattle.std.proofs.lemmas.Option.{same_Some}
use Rattle.pbs_ast.specs.Trees.{Spot, Tree, Empty, Terminal, Action, Seq, Choice, Star, Hold, Scope, is_plain}
use Rattle.pbs_ast.specs.Trees.{has_terminal, nullable}
use Rattle.pbs_ast.specs.Sound.{visit_count, place_count, scope_count, scopes_right}
use Rattle.pbs_edges.proofs.Numbering.{numbered}
use Rattle.pbs_edges.proofs.Rounds.{pair_parts, scope_parts}
use Rattle.pbs_overlap.specs.declared.ranges.ScopeRange.{ScopeRange}
use Rattle.pbs_overlap.specs.Ranges.{number_of, ranges}
use Rattle.pbs_overlap.proofs.Leaves.{own_number}
use Rattle.pbs_overlap.proofs.Around.{range_within, get-cases}

abbrev pub Nested : ScopeRange → ScopeRange → Type 0
Nested r t = ((r.body ≤ t.body) × (t.after ≤ r.trap)) ⊎ (r.after ≤ t.body)

-- a plain tree has no scope
plain_none : (e : Tree) → is_plain e ≡ true → ranges e ≡ []
plain_none (Empty at) h = refl
plain_none (Terminal at p t) h = refl
plain_none (Action at a) h = refl
plain_none (Seq at e f) h =
    let p = and_parts (is_plain e) (is_plain f) h in
    ap (λ rs. rs ++ ranges f) (plain_none e p.0) ∙ plain_none f p.1
plain_none (Choice at e f) h =
    let p = and_parts (is_plain e) (is_plain f) h in
    ap (λ rs. rs ++ ranges f) (plain_none e p.0) ∙ plain_none f p.1
plain_none (Star at e) h = plain_none e h
plain_none (Hold at t e) h = plain_none e h
plain_none (Scope at s e x h) g = absurd (false≢true g)

none_there : (e : Tree) (k : ℕ) (r : ScopeRange) → is_plain e ≡ true → slice_get (ranges e) k ≡ Some r → ⊥
none_there e k r h g = let f : slice_get [] k ≡ Some r = subst (λ rs. slice_get rs k ≡ Some r) (plain_none e h) g in cc

module _ (e f : Tree) (j k : ℕ) (r t : ScopeRange) (less : j < k) where
  -- both in one of two parts, or the first in the first one
  two_parts : slice_get (ranges e ++ ranges f) j ≡ Some r → slice_get (ranges e ++ ranges f) k ≡ Some t
      → (slice_get (ranges e) j ≡ Some r → slice_get (ranges e) k ≡ Some t → Nested r t)
      → ((i l : ℕ) → i < l → slice_get (ranges f) i ≡ Some r → slice_get (ranges f) l ≡ Some t → Nested r t)
      → ((l : ℕ) → slice_get (ranges e) j ≡ Some r → slice_get (ranges f) l ≡ Some t → Nested r t) → Nested r t
  two_parts a b left right across = elim (get-cases (ranges e) (ranges f) j r a) [
    | inl u ↦ elim (get-cases (ranges e) (ranges f) k t b) [
      | inl v ↦ left u.1 v.1
      | inr v ↦ across v.0 u.1 v.2
    ]
    | inr u ↦ elim (get-cases (ranges e) (ranges f) k t b) [
      | inl v ↦ absurd (let m = u.1 in let o = v.0 in omega arith)
      | inr v ↦ right u.0 v.0 (let m = u.1 in let o = v.1 in omega arith) u.2 v.2
    ]
  ]

-- what holds of each scope's parts
pub record Right (e x h : Tree) : Type 0 where
  pub plain : is_plain x ≡ true
  pub body : scopes_right e ≡ true
  pub after : scopes_right h ≡ true

pub right_parts : (at : Spot) (s : ℕ) (e x h : Tree) → scopes_right (Scope at s e x h) ≡ true → Right e x h
right_parts at s e x h g =
    let a = and_parts (has_terminal e) (not (nullable x) && (is_plain x && (scopes_right e && scopes_right h))) g in
    let b = and_parts (not (nullable x)) (is_plain x && (scopes_right e && scopes_right h)) a.1 in
    let c = and_parts (is_plain x) (scopes_right e && scopes_right h) b.1 in
    let d = and_parts (scopes_right e) (scopes_right h) c.1 in
    record { plain = c.0; body = d.0; after = d.1 }

pub nested : (e : Tree) (n b s j k : ℕ) (r t : ScopeRange) → scopes_right e ≡ true → numbered e n b s ≡ true → j < k
    → slice_get (ranges e) j ≡ Some r → slice_get (ranges e) k ≡ Some t → Nested r t
nested (Empty at) n b s j k r t right g less a c = absurd (cc)
nested (Terminal at p u) n b s j k r t right g less a c = absurd (cc)
nested (Action at u) n b s j k r t right g less a c = absurd (cc)
nested (Seq at e f) n b s j k r t right g less a c =
    let m = pair_parts at e f n b s g in
    let w = and_parts (scopes_right e) (scopes_right f) right in
    two_parts e f j k r t less a c
    (λ u v. nested e (n + 1) b s j k r t w.0 m.left less u v)
    (λ i l before u v. nested f (n + 1 + visit_count e) (b + place_count e) (s + scope_count e) i l r t w.1 m.right
    before u v)
    (λ l u v.
    let x = (range_within e (n + 1) b s j r m.left u).high in
    let y = (range_within f (n + 1 + visit_count e) (b + place_count e) (s + scope_count e) l t m.right v).low in
    inr (omega arith))
nested (Choice at e f) n b s j k r t right g less a c =
    let m = pair_parts at e f n b s g in
    let w = and_parts (scopes_right e) (scopes_right f) right in
    two_parts e f j k r t less a c
    (λ u v. nested e (n + 1) b s j k r t w.0 m.left less u v)
    (λ i l before u v. nested f (n + 1 + visit_count e) (b + place_count e) (s + scope_count e) i l r t w.1 m.right
    before u v)
    (λ l u v.
    let x = (range_within e (n + 1) b s j r m.left u).high in
    let y = (range_within f (n + 1 + visit_count e) (b + place_count e) (s + scope_count e) l t m.right v).low in
    inr (omega arith))
nested (Star at e) n b s j k r t right g less a c =
    nested e (n + 1) b s j k r t right
    (and_parts (nat_eq at.number n) (numbered e (n + 1) b s) g).1 less a c
nested (Hold at u e) n b s j k r t right g less a c =
    nested e (n + 1) b s j k r t right (and_parts (nat_eq at.number n) (numbered e (n + 1) b s) g).1 less a c
nested (Scope at u e x h) n b s zero zero r t right g less a c = absurd (omega arith)
nested (Scope at u e x h) n b s (suc j) zero r t right g less a c = absurd (omega arith)
nested (Scope at u e x h) n b s zero (suc k) r t right g less a c =
    let m = scope_parts at u e x h n b s g in
    let w = right_parts at u e x h right in
    let here : ScopeRange = record { span = at.span; body = number_of e; trap = number_of x; after = number_of h } in
    let number_e : number_of e ≡ n + 1 = own_number e (n + 1) b (1 + s) m.body in
    let number_x : number_of x ≡ n + 1 + visit_count e =
    own_number x (n + 1 + visit_count e) (b + place_count e) (1 + s + scope_count e) m.trap in
    let number_h : number_of h ≡ n + 1 + visit_count e + visit_count x =
    own_number h (n + 1 + visit_count e + visit_count x) (b + place_count e + place_count x)
    (1 + s + scope_count e + scope_count x) m.after in
    subst (λ q. Nested q t) (same_Some here r a) (elim (get-cases (ranges e) (ranges x ++ ranges h) k t c) [
      | inl v ↦
          let y = range_within e (n + 1) b (1 + s) k t m.body v.1 in
          let low = y.low in let high = y.high in inl (omega arith, omega arith)
      | inr v ↦ elim (get-cases (ranges x) (ranges h) v.0 t v.2) [
        | inl z ↦ absurd (none_there x v.0 t w.plain z.1)
        | inr z ↦
            let y = (range_within h (n + 1 + visit_count e + visit_count x) (b + place_count e + place_count x)
            (1 + s + scope_count e + scope_count x) z.0 t m.after z.2).low in
            inr (omega arith)
      ]
    ])
nested (Scope at u e x h) n b s (suc j) (suc k) r t right g less a c =
    let m = scope_parts at u e x h n b s g in
    let w = right_parts at u e x h right in
    elim (get-cases (ranges e) (ranges x ++ ranges h) j r a) [
      | inl p ↦ elim (get-cases (ranges e) (ranges x ++ ranges h) k t c) [
        | inl v ↦ nested e (n + 1) b (1 + s) j k r t w.body m.body (omega arith) p.1 v.1
        | inr v ↦ elim (get-cases (ranges x) (ranges h) v.0 t v.2) [
          | inl z ↦ absurd (none_there x v.0 t w.plain z.1)
          | inr z ↦
              let y = (range_within e (n + 1) b (1 + s) j r m.body p.1).high in
              let o = (range_within h (n + 1 + visit_count e + visit_count x) (b + place_count e + place_count x)
              (1 + s + scope_count e + scope_count x) z.0 t m.after z.2).low in
              inr (omega arith)
        ]
      ]
      | inr p ↦ elim (get-cases (ranges x) (ranges h) p.0 r p.2) [
        | inl q ↦ absurd (none_there x p.0 r w.plain q.1)
        | inr q ↦ elim (get-cases (ranges e) (ranges x ++ ranges h) k t c) [
          | inl v ↦ absurd (let m = p.1 in let o = v.0 in omega arith)
          | inr v ↦ elim (get-cases (ranges x) (ranges h) v.0 t v.2) [
            | inl z ↦ absurd (none_there x v.0 t w.plain z.1)
            | inr z ↦ nested h (n + 1 + visit_count e + visit_count x) (b + place_count e + place_count x)
                (1 + s + scope_count e + scope_count x) q.0 z.0 r t w.after m.after
                (let d = p.1 in let f = v.1 in let i = q.1 in let l = z.1 in omega arith) q.2 z.2
          ]
        ]
      ]
    ]
