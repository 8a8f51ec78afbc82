-- The least number with a property, as the property grows.
use Rattle.std.proofs.Common.{◌≡◌, ℕ, ◌+◌, min, Bool, ◌&&◌, ◌⊎◌, inl, inr, arith, refl, sym, ◌∙◌, ap, subst}
use Rattle.std.proofs.Common.{Option, Some, None}
use Rattle.std.proofs.lemmas.Bool.{cases_eq, cases_lt, cases_Bool, cond-true, cond-false}
use Rattle.pbs_overlap.specs.declared.search.Plan.{Plan}
use Rattle.pbs_overlap.specs.declared.search.Reached.{Reached}
use Rattle.pbs_overlap.specs.inner.Joints.{joint_at}
use Rattle.pbs_overlap.specs.inner.Steps.{refused_scope, region_refused}
use Rattle.pbs_overlap.specs.inner.Search.{Between, marked_at, fit_at, step_at}
use Rattle.pbs_overlap.specs.inner.Lowest.{lower_of, IsLowest, RefusesWith}

-- the numbers that equal a given one, if any
pub lowest_one : (o : Option ℕ) → IsLowest (λ s. o ≡ Some s) o
lowest_one o = record {
  found = λ t e. e;
  least = λ s h. (s, h, omega arith);
}

-- the same numbers have the property
lowest_as : {P Q : ℕ → Type 0} {o : Option ℕ} → IsLowest P o → ((s : ℕ) → P s → Q s) → ((s : ℕ) → Q s → P s)
    → IsLowest Q o
lowest_as l to from = record { found = λ t e. to t (l.found t e); least = λ s h. l.least s (from s h) }

none_some : (n : ℕ) → ◌≡◌ {A = Option ℕ} None (Some n) → ⊥
none_some n e = cc

some_some : (n m : ℕ) → ◌≡◌ {A = Option ℕ} (Some n) (Some m) → n ≡ m
some_some n m e = cc

-- the numbers with one of two properties
lowest_either : (P Q : ℕ → Type 0) (o r : Option ℕ) → IsLowest P o → IsLowest Q r
    → IsLowest (λ s. P s ⊎ Q s) (lower_of o r)
lowest_either P Q None r l m = record {
  found = λ t e. inr (m.found t e);
  least = λ s h. elim h [
    | inl p ↦ let n = l.least s p in absurd (none_some n.0 n.1)
    | inr q ↦ m.least s q
  ];
}
lowest_either P Q (Some u) None l m = record {
  found = λ t e. inl (l.found t e);
  least = λ s h. elim h [
    | inl p ↦ l.least s p
    | inr q ↦ let n = m.least s q in absurd (none_some n.0 n.1)
  ];
}
lowest_either P Q (Some u) (Some r) l m = record {
  found = λ t e.
      let same : min u r ≡ t = some_some (min u r) t e in
      elim (cases_lt u r) [
        | inl below ↦ let first : u ≡ t = omega arith in inl (subst P first (l.found u refl))
        | inr above ↦ let second : r ≡ t = omega arith in inr (subst Q second (m.found r refl))
      ];
  least = λ s h. elim h [
    | inl p ↦
        let n = l.least s p in let same : u ≡ n.0 = some_some u n.0 n.1 in
        (min u r, refl, let k = n.2 in omega arith)
    | inr q ↦
        let n = m.least s q in let same : r ≡ n.0 = some_some r n.0 n.1 in
        (min u r, refl, let k = n.2 in omega arith)
  ];
}

-- an iteration of a loop
pub lowest_more : (P : ℕ → ℕ → Type 0) (j : ℕ) (o r : Option ℕ) → IsLowest (Between 0 j P) o → IsLowest (P j) r
    → IsLowest (Between 0 (j + 1) P) (lower_of o r)
lowest_more P j o r l m = lowest_as (lowest_either (Between 0 j P) (P j) o r l m)
    (λ s h. elim h [
      | inl b ↦ (b.0, omega arith, (let k = b.2 in omega arith), b.3)
      | inr here ↦ (j, omega arith, omega arith, here)
    ])
    (λ s h. elim (cases_eq h.0 j) [
      | inl e ↦ inr (subst (λ k. P k s) e h.3)
      | inr ne ↦ inl (h.0, h.1, (let k = h.2 in omega arith), h.3)
    ])

-- a step that enters nothing refuses nothing
pub refused_none : (plan : Plan) (reached : Reached) (j : ℕ) → (step_at plan.steps.items j).enters ≡ None → (s : ℕ)
    → RefusesWith plan reached j s → ⊥
refused_none plan reached j none s (i, low, high, h) =
    let test : Bool = (marked_at plan reached (step_at plan.steps.items i).from (step_at plan.steps.items j).from
    && joint_at plan.terms (step_at plan.steps.items i).from (step_at plan.steps.items j).from)
    && fit_at plan.steps.items i j in
    let scope : refused_scope (step_at plan.steps.items i) (step_at plan.steps.items j) ≡ None =
    ap (λ o. region_refused (step_at plan.steps.items i).node o) none in
    elim (cases_Bool test) [
      | inl t ↦ none_some s (sym scope ∙ (sym (cond-true test
          (refused_scope (step_at plan.steps.items i) (step_at plan.steps.items j)) None t) ∙ h))
      | inr f ↦ none_some s (sym (cond-false test
          (refused_scope (step_at plan.steps.items i) (step_at plan.steps.items j)) None f) ∙ h)
    ]
