-- The loops that follow the items from position to position.
use Rattle.std.proofs.Common.{◌≡◌, ℕ, zero, suc, ◌+◌, ◌<◌, ◌≤◌, Bool, false, nat_lt, inl, inr, List, [], ◌∷◌, ◌++◌}
use Rattle.std.proofs.Common.{length, Some, sym, ap, ◌∙◌, arith, get_or}
use Rattle.std.specs.Prelude.{◌⊎◌, slice_get, drop, Result, Ok, Err, IfOk}
use Rattle.std.proofs.lemmas.Bool.{and_parts, ltb-true, cases_lt}
use Rattle.std.proofs.lemmas.List.{drop_more}
use Rattle.pbs_derive.proofs.Positions.{false_from}
use Rattle.pbs_covers.proofs.Grids.{slice_get-left, slice_get-seam}
use Rattle.pbs_covers.specs.Grids.{entry, value_of}
use Rattle.pbs_explain.specs.declared.derivation.Item.{Item}
use Rattle.pbs_explain.specs.inner.Checked.{next, leads, reached}
use Rattle.pbs_explain.proofs.Reached.{leads_far, reached_zero}

-- an item that doesn't move on, or moves too far
pub leads_stop : (xs : List Item) (n from to c : ℕ) (d : Item) → c < length xs
    → leads 0 xs n ≡ leads from (drop c xs) n → to ≡ next from (get_or xs c d) → (to ≤ from) ⊎ ((from < to) × (n < to))
    → leads 0 xs n ≡ false
leads_stop xs n from to c d lt same is bad =
    false_from _ (λ e.
    let x = get_or xs c d in
    let p = and_parts (nat_lt from (next from x)) (leads (next from x) (drop (c + 1) xs) n)
    (sym (ap (λ ys. leads from ys n) (drop_more xs c d lt)) ∙ (sym same ∙ e)) in
    let moves : from < next from x = ltb-true from (next from x) p.0 in
    let far : next from x + length (drop (c + 1) xs) ≤ n = leads_far (next from x) (drop (c + 1) xs) n p.1 in
    elim bad [ inl still ↦ omega arith | inr past ↦ let over : n < to = past.1 in omega arith ])

reached_suc : (i : ℕ) (xs : List Item) (c : ℕ) (d : Item) → c < length xs
    → reached i xs (suc c) ≡ next (reached i xs c) (get_or xs c d)
reached_suc i [] c d lt = absurd (omega arith)
reached_suc i (x ∷ xs) zero d lt = reached_zero (next i x) xs
reached_suc i (x ∷ xs) (suc c) d lt = reached_suc (next i x) xs c d (omega arith)

reached_next : (i : ℕ) (xs : List Item) (c : ℕ) (d : Item) → c < length xs
    → reached i xs (c + 1) ≡ next (reached i xs c) (get_or xs c d)
reached_next i xs c d lt =
    let e : c + 1 ≡ suc c = omega arith in ap (reached i xs) e ∙ reached_suc i xs c d lt

pub position_next : (xs : List Item) (c from to : ℕ) (d : Item) → c < length xs → from ≡ reached 0 xs c
    → to ≡ next from (get_or xs c d) → to ≡ reached 0 xs (c + 1)
position_next xs c from to d lt here is =
    is ∙ (ap (λ i. next i (get_or xs c d)) here ∙ sym (reached_next 0 xs c d lt))

pub positions_first : (xs : List Item) (ps : List ℕ) → ps ≡ 0 ∷ [] → (k : ℕ) → k ≤ 0
    → slice_get ps k ≡ Some (reached 0 xs k)
positions_first xs ps e k le =
    let z : k ≡ 0 = omega arith in
    ap (slice_get ps) z ∙ (ap (λ qs. slice_get qs 0) e
    ∙ (ap Some (sym (reached_zero 0 xs)) ∙ ap (λ n. Some (reached 0 xs n)) (sym z)))

pub positions_more : (xs : List Item) (ps new : List ℕ) (c to : ℕ) → new ≡ ps ++ to ∷ [] → length ps ≡ c + 1
    → to ≡ reached 0 xs (c + 1) → ((k : ℕ) → k ≤ c → slice_get ps k ≡ Some (reached 0 xs k)) → (k : ℕ)
    → k ≤ c + 1 → slice_get new k ≡ Some (reached 0 xs k)
positions_more xs ps new c to grown filled is old k le =
    elim (cases_lt k (length ps)) [
      | inl lt ↦ ap (λ qs. slice_get qs k) grown ∙ (slice_get-left ps (to ∷ []) k lt ∙ old k (omega arith))
      | inr ge ↦
          let last : k ≡ length ps = omega arith in
          let here : c + 1 ≡ k = omega arith in
          ap (λ qs. slice_get qs k) grown ∙ (ap (slice_get (ps ++ to ∷ [])) last ∙ (slice_get-seam ps to []
          ∙ ap Some (is ∙ ap (reached 0 xs) here)))
    ]

-- a list that tells of each item, with one more
pub entry_more : (list new : List Bool) (b : Bool) (c : ℕ) (f : ℕ → Bool) → new ≡ list ++ b ∷ [] → length list ≡ c
    → b ≡ f c → ((k : ℕ) → k < c → entry list k ≡ f k) → (k : ℕ) → k < c + 1 → entry new k ≡ f k
entry_more list new b c f grown filled is old k lt =
    elim (cases_lt k (length list)) [
      | inl less ↦ ap (λ qs. entry qs k) grown ∙ (ap value_of (slice_get-left list (b ∷ []) k less)
          ∙ old k (omega arith))
      | inr ge ↦
          let last : k ≡ length list = omega arith in
          let here : c ≡ k = omega arith in
          ap (λ qs. entry qs k) grown ∙ (ap (λ n. value_of (slice_get (list ++ b ∷ []) n)) last
          ∙ (ap value_of (slice_get-seam list b []) ∙ (is ∙ ap f here)))
    ]

-- the same from i on
pub entry_from : (list new : List Bool) (b : Bool) (i c : ℕ) (f : ℕ → Bool) → new ≡ list ++ b ∷ [] → length list ≡ c
    → (i ≤ c → b ≡ f c) → ((k : ℕ) → i ≤ k → k < c → entry list k ≡ f k) → (k : ℕ) → i ≤ k → k < c + 1
    → entry new k ≡ f k
entry_from list new b i c f grown filled is old k low lt =
    elim (cases_lt k (length list)) [
      | inl less ↦ ap (λ qs. entry qs k) grown ∙ (ap value_of (slice_get-left list (b ∷ []) k less)
          ∙ old k low (omega arith))
      | inr ge ↦
          let last : k ≡ length list = omega arith in
          let here : c ≡ k = omega arith in
          ap (λ qs. entry qs k) grown ∙ (ap (λ n. value_of (slice_get (list ++ b ∷ []) n)) last
          ∙ (ap value_of (slice_get-seam list b []) ∙ (is (omega arith) ∙ ap f here)))
    ]

-- two clauses of a result make a third
pub if_ok_both : {A E : Type 0} (r : Result A E) (P Q R : A → Type 0) → ((x : A) → P x → Q x → R x) → IfOk r P
    → IfOk r Q → IfOk r R
if_ok_both (Ok x) P Q R f p q = f x p q
if_ok_both (Err e) P Q R f p q = tt
