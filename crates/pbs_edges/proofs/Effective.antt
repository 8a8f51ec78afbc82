-- In a numbered tree a place opens exactly where its effective term is true.
use Rattle.std.proofs.Common.{◌≡◌, ℕ, zero, suc, ◌+◌, ◌-◌, ◌<◌, ◌≤◌, Bool, true, false, ◌&&◌, ◌||◌, ◌⊎◌, inl, inr, List}
use Rattle.std.proofs.Common.{[], ◌∷◌, ◌++◌, length, get_or, arith, refl, sym, ◌∙◌, ap, subst, length-append}
use Rattle.std.specs.Prelude.{nat_eq}
use Rattle.std.proofs.lemmas.Bool.{cases_lt, eqb-true, eq-eqb, ne_eqb, and_parts, cases_Bool}
use Rattle.std.proofs.lemmas.List.{get_or_append_left, get_or-append_right}
use Rattle.bool_terms.specs.Terms.{Term, holds}
use Rattle.pbs_ast.specs.Trees.{Tree, Empty, Terminal, Action, Seq, Choice, Star, Hold, Scope}
use Rattle.pbs_ast.specs.Sound.{visit_count, place_count, scope_count}
use Rattle.pbs_edges.proofs.Numbering.{numbered}
use Rattle.pbs_edges.proofs.Numbering.{IsNumbered}
use Rattle.pbs_ast.specs.Trees.{fits}
use Rattle.pbs_edges.specs.Effective.{under_hold, effective_terms, all_true, effective_term}
use Rattle.pbs_edges.proofs.Rounds.{pair_parts, scope_parts}

length-under_hold : (t : Term) (ts : List (List Term)) → length (under_hold t ts) ≡ length ts
length-under_hold t [] = refl
length-under_hold t (x ∷ ts) = ap suc (length-under_hold t ts)

get-under_hold : (t : Term) (ts : List (List Term)) (i : ℕ) → i < length ts → get_or (under_hold t ts) i []
    ≡ t ∷ get_or ts i []
get-under_hold t [] i l = absurd (omega arith)
get-under_hold t (x ∷ ts) zero l = refl
get-under_hold t (x ∷ ts) (suc i) l = get-under_hold t ts i (omega arith)

pub length-effective : (e : Tree) → length (effective_terms e) ≡ place_count e
length-effective (Empty at) = refl
length-effective (Terminal at p t) = refl
length-effective (Action at a) = refl
length-effective (Seq at e f) = let a = length-effective e in let b = length-effective f in let c = length-append
    (effective_terms e) (effective_terms f) in omega arith
length-effective (Choice at e f) = let a = length-effective e in let b = length-effective f in let c = length-append
    (effective_terms e) (effective_terms f) in omega arith
length-effective (Star at e) = length-effective e
length-effective (Hold at t e) = length-under_hold t (effective_terms e) ∙ length-effective e
length-effective (Scope at s e x h) =
    let a = length-effective e in let b = length-effective x in let c = length-effective h in
    let d = length-append (effective_terms e) (effective_terms x ++ effective_terms h) in
    let f = length-append (effective_terms x) (effective_terms h) in omega arith

-- a place that isn't the tree's opens never in it
pub fits-outside : (e : Tree) (n b s p v : ℕ) → numbered e n b s ≡ true → ((p < b) ⊎ (b + place_count e ≤ p))
    → fits p e v ≡ false
fits-outside (Empty at) n b s p v g o = refl
fits-outside (Terminal at q t) n b s p v g o =
    let own : q ≡ b = eqb-true q b (and_parts (nat_eq at.number n) (nat_eq q b) g).1 in
    let other : p ≡ q → ⊥ = λ e. elim o [ inl l ↦ omega arith | inr l ↦ omega arith ] in
    ap (λ (x : Bool). x && holds t v) (ne_eqb p q other)
fits-outside (Action at a) n b s p v g o = refl
fits-outside (Seq at e f) n b s p v g o =
    let c = pair_parts at e f n b s g in
    let x : fits p e v ≡ false = fits-outside e (n + 1) b s p v c.left
    (elim o [ inl l ↦ inl l | inr l ↦ inr (omega arith) ]) in
    let y : fits p f v ≡ false = fits-outside f (n + 1 + visit_count e) (b + place_count e)
    (s + scope_count e) p v c.right (elim o [ inl l ↦ inl (omega arith) | inr l ↦ inr (omega arith) ]) in
    rw (x, y) refl
fits-outside (Choice at e f) n b s p v g o =
    let c = pair_parts at e f n b s g in
    let x : fits p e v ≡ false = fits-outside e (n + 1) b s p v c.left
    (elim o [ inl l ↦ inl l | inr l ↦ inr (omega arith) ]) in
    let y : fits p f v ≡ false = fits-outside f (n + 1 + visit_count e) (b + place_count e)
    (s + scope_count e) p v c.right (elim o [ inl l ↦ inl (omega arith) | inr l ↦ inr (omega arith) ]) in
    rw (x, y) refl
fits-outside (Star at e) n b s p v g o = fits-outside e (n + 1) b s p v
    (and_parts (nat_eq at.number n) (numbered e (n + 1) b s) g).1 o
fits-outside (Hold at t e) n b s p v g o =
    let x : fits p e v ≡ false = fits-outside e (n + 1) b s p v
    (and_parts (nat_eq at.number n) (numbered e (n + 1) b s) g).1 o in
    ap (λ (y : Bool). y && holds t v) x
fits-outside (Scope at t e x h) n b s p v g o =
    let c = scope_parts at t e x h n b s g in
    let y : fits p e v ≡ false = fits-outside e (n + 1) b (1 + s) p v c.body
    (elim o [ inl l ↦ inl l | inr l ↦ inr (omega arith) ]) in
    let z : fits p x v ≡ false = fits-outside x (n + 1 + visit_count e) (b + place_count e)
    (1 + s + scope_count e) p v c.trap
    (elim o [ inl l ↦ inl (omega arith) | inr l ↦ inr (omega arith) ]) in
    let w : fits p h v ≡ false = fits-outside h (n + 1 + visit_count e + visit_count x)
    (b + place_count e + place_count x) (1 + s + scope_count e + scope_count x) p v c.after
    (elim o [ inl l ↦ inl (omega arith) | inr l ↦ inr (omega arith) ]) in
    rw (y, z, w) refl

false-or : (x y : Bool) → x ≡ false → (x || y) ≡ y
false-or x y e = ap (λ z. z || y) e

or-false : (x y : Bool) → y ≡ false → (x || y) ≡ x
or-false x y e = elim (cases_Bool x) [
  | inl t ↦ ap (λ z. z || y) t ∙ sym t
  | inr f ↦ ap (λ z. z || y) f ∙ e ∙ sym f
]

and-true_right : (x : Bool) → (x && true) ≡ x
and-true_right x = elim (cases_Bool x) [ inl t ↦ ap (λ z. z && true) t ∙ sym t | inr f ↦ ap (λ z. z && true) f ∙ sym f ]

or_assoc : (x y z : Bool) → ((x || y) || z) ≡ (x || (y || z))
or_assoc true y z = refl
or_assoc false y z = refl

and_swap : (x y : Bool) → (x && y) ≡ (y && x)
and_swap true true = refl
and_swap true false = refl
and_swap false true = refl
and_swap false false = refl

-- what opens in two parts, from what opens in each of them
joined_terms : (xs ys : List (List Term)) (b w i v : ℕ) (f g : ℕ → Bool) → length xs ≡ w
    → (i < w → g (b + i) ≡ false) → (w ≤ i → f (b + i) ≡ false)
    → (i < w → f (b + i) ≡ all_true (get_or xs i []) v) →
    (w ≤ i → g (b + w + (i - w)) ≡ all_true (get_or ys (i - w) []) v)
    → (f (b + i) || g (b + i)) ≡ all_true (get_or (xs ++ ys) i []) v
joined_terms xs ys b w i v f g size no_right no_left left right = elim (cases_lt i w) [
  | inl below ↦ or-false (f (b + i)) (g (b + i)) (no_right below) ∙ left below
      ∙ ap (λ ts. all_true ts v) (sym (get_or_append_left xs ys [] i (omega arith)))
  | inr above ↦
      let there : b + w + (i - w) ≡ b + i = omega arith in
      false-or (f (b + i)) (g (b + i)) (no_left above) ∙ ap g (sym there) ∙ right above
      ∙ ap (λ ts. all_true ts v) (sym (get_or-append_right xs ys w i [] size above))
]

pub fits_by_term : (e : Tree) (n b s i v : ℕ) → numbered e n b s ≡ true → i < place_count e → fits (b + i) e v
    ≡ all_true (get_or (effective_terms e) i []) v
fits_by_term (Empty at) n b s i v g l = absurd (omega arith)
fits_by_term (Terminal at q t) n b s i v g l =
    let own : q ≡ b = eqb-true q b (and_parts (nat_eq at.number n) (nat_eq q b) g).1 in
    let first : i ≡ 0 = omega arith in
    let here : b + i ≡ q = omega arith in
    let term : get_or ((t ∷ []) ∷ []) i [] ≡ t ∷ [] = subst (λ k. get_or ((t ∷ []) ∷ []) k [] ≡ t ∷ [])
    (sym first) refl in
    ap (λ (x : Bool). x && holds t v) (eq-eqb (b + i) q here) ∙ sym (and-true_right (holds t v)) ∙ ap
    (λ ts. all_true ts v) (sym term)
fits_by_term (Action at a) n b s i v g l = absurd (omega arith)
fits_by_term (Seq at e f) n b s i v g l =
    let c = pair_parts at e f n b s g in
    joined_terms (effective_terms e) (effective_terms f) b (place_count e) i v (λ p. fits p e v) (λ p. fits p f v)
    (length-effective e)
    (λ k. fits-outside f (n + 1 + visit_count e) (b + place_count e) (s + scope_count e) (b + i) v c.right
    (inl (omega arith)))
    (λ k. fits-outside e (n + 1) b s (b + i) v c.left (inr (omega arith)))
    (λ k. fits_by_term e (n + 1) b s i v c.left k)
    (λ k. fits_by_term f (n + 1 + visit_count e) (b + place_count e) (s + scope_count e) (i - place_count e) v c.right
    (omega arith))
fits_by_term (Choice at e f) n b s i v g l =
    let c = pair_parts at e f n b s g in
    joined_terms (effective_terms e) (effective_terms f) b (place_count e) i v (λ p. fits p e v) (λ p. fits p f v)
    (length-effective e)
    (λ k. fits-outside f (n + 1 + visit_count e) (b + place_count e) (s + scope_count e) (b + i) v c.right
    (inl (omega arith)))
    (λ k. fits-outside e (n + 1) b s (b + i) v c.left (inr (omega arith)))
    (λ k. fits_by_term e (n + 1) b s i v c.left k)
    (λ k. fits_by_term f (n + 1 + visit_count e) (b + place_count e) (s + scope_count e) (i - place_count e) v c.right
    (omega arith))
fits_by_term (Star at e) n b s i v g l = fits_by_term e (n + 1) b s i v
    (and_parts (nat_eq at.number n) (numbered e (n + 1) b s) g).1 l
fits_by_term (Hold at t e) n b s i v g l =
    let size : length (effective_terms e) ≡ place_count e = length-effective e in
    and_swap (fits (b + i) e v) (holds t v) ∙ ap (λ x. holds t v && x)
    (fits_by_term e (n + 1) b s i v (and_parts (nat_eq at.number n) (numbered e (n + 1) b s) g).1 l)
    ∙ ap (λ ts. all_true ts v) (sym (get-under_hold t (effective_terms e) i (omega arith)))
fits_by_term (Scope at t e x h) n b s i v g l =
    let c = scope_parts at t e x h n b s g in
    or_assoc (fits (b + i) e v) (fits (b + i) x v) (fits (b + i) h v) ∙
    joined_terms (effective_terms e) (effective_terms x ++ effective_terms h) b (place_count e) i v
    (λ p. fits p e v) (λ p. fits p x v || fits p h v) (length-effective e)
    (λ k. or-false (fits (b + i) x v) (fits (b + i) h v)
    (fits-outside h (n + 1 + visit_count e + visit_count x) (b + place_count e + place_count x)
    (1 + s + scope_count e + scope_count x) (b + i) v c.after (inl (omega arith)))
    ∙ fits-outside x (n + 1 + visit_count e) (b + place_count e) (1 + s + scope_count e) (b + i) v c.trap
    (inl (omega arith)))
    (λ k. fits-outside e (n + 1) b (1 + s) (b + i) v c.body (inr (omega arith)))
    (λ k. fits_by_term e (n + 1) b (1 + s) i v c.body k)
    (λ k. joined_terms (effective_terms x) (effective_terms h) (b + place_count e) (place_count x) (i - place_count e) v
    (λ p. fits p x v) (λ p. fits p h v) (length-effective x)
    (λ j. fits-outside h (n + 1 + visit_count e + visit_count x) (b + place_count e + place_count x)
    (1 + s + scope_count e + scope_count x) (b + place_count e + (i - place_count e)) v c.after (inl (omega arith)))
    (λ j. fits-outside x (n + 1 + visit_count e) (b + place_count e) (1 + s + scope_count e)
    (b + place_count e + (i - place_count e)) v c.trap (inr (omega arith)))
    (λ j. fits_by_term x (n + 1 + visit_count e) (b + place_count e) (1 + s + scope_count e)
    (i - place_count e) v c.trap j)
    (λ j. fits_by_term h (n + 1 + visit_count e + visit_count x) (b + place_count e + place_count x)
    (1 + s + scope_count e + scope_count x) (i - place_count e - place_count x) v c.after (omega arith)))

-- a place of the whole tree opens exactly where its effective term is true
pub fits_by_effective_term : (main : Tree) (p v : ℕ) → IsNumbered main → p < place_count main → fits p main v ≡ all_true
    (effective_term main p) v
fits_by_effective_term main p v g l =
    let same : 0 + p ≡ p = omega arith in
    ap (λ q. fits q main v) (sym same) ∙ fits_by_term main 0 0 0 p v g l
