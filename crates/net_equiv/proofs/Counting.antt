-- Names in order that are all among others in order are no more than those.
use Rattle.std.proofs.Common.{◌≡◌, inl, inr, ℕ, zero, suc, ◌<◌, ◌≤◌, List, length, get_or, Some}
use Rattle.std.proofs.Common.{sym, ap, subst, ◌∙◌, arith}
use Rattle.std.specs.Prelude.{slice_get}
use Rattle.std.proofs.lemmas.Bool.{cases_eq, cases_lt}
use Rattle.std.proofs.lemmas.Option.{same_Some, slice_get-get_or, slice_get_within}
use Rattle.net_equiv.specs.declared.answer.VarName.{VarName}
use Rattle.net_equiv.specs.declared.answer.VarName.TheVariants.{Input}
use Rattle.net_equiv.specs.Cones.{AreAll, AreSome, ComesBefore, Has}
use Rattle.net_equiv.proofs.Adding.{before_trans}
use Rattle.net_equiv.proofs.Assembling.{never_before_itself}

module _ (M : VarName → Type 0) (xs ys : List VarName) (all : AreAll M xs) (some : AreSome M ys) where
  found : (s : ℕ) (y : VarName) → slice_get ys s ≡ Some y → Has xs y
  found s y at = all.all y (some.each s y at)

  -- the places among the others rise too
  later : (s t : ℕ) (x y : VarName) → (e : slice_get ys s ≡ Some x) → (f : slice_get ys t ≡ Some y) → s < t
      → (found s x e).place < (found t y f).place
  later s t x y e f lt =
      by (found s x e).place (found t y f).place (found s x e).at (found t y f).at
      (some.rising.order s t x y lt e f)
    where
      by : (p q : ℕ) → slice_get xs p ≡ Some x → slice_get xs q ≡ Some y → ComesBefore x y → p < q
      by p q at at' before =
          elim (cases_lt p q) [
            | inl less ↦ less
            | inr more ↦
                elim (cases_eq p q) [
                  | inl same ↦
                      let is : x ≡ y = same_Some x y (sym at ∙ (ap (λ j. slice_get xs j) same ∙ at')) in
                      absurd (never_before_itself y (subst (λ z. ComesBefore z y) is before))
                  | inr other ↦
                      let back : ComesBefore y x = all.some.rising.order q p y x (omega arith) at' at in
                      absurd (never_before_itself x (before_trans x y x before back))
                ]
          ]

  far : (s : ℕ) (y : VarName) → (e : slice_get ys s ≡ Some y) → s ≤ (found s y e).place
  far zero y e = omega arith
  far (suc s) y e =
      let within = slice_get_within ys (suc s) y e in
      let x = get_or ys s y in
      let at : slice_get ys s ≡ Some x = slice_get-get_or ys s y (omega arith) in
      let before = far s x at in
      let more = later s (suc s) x y at e (omega arith) in
      omega arith

  pub too_many : (n : ℕ) → length xs ≤ n → n < length ys → ⊥
  too_many n few many =
      let y = get_or ys n (Input 0) in
      let at : slice_get ys n ≡ Some y = slice_get-get_or ys n (Input 0) many in
      let past = far n y at in
      let within = slice_get_within xs (found n y at).place y (found n y at).at in
      omega arith
