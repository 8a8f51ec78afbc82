-- Joins of which one side was replaced.
use Rattle.std.proofs.Common.{◌≡◌, ◌⊎◌, inl, inr, ℕ, zero, suc, not, List, [], ◌∷◌, length, Some, refl, sym, ap, ◌∙◌}
use Rattle.std.proofs.Common.{subst, Bool, true, false, Result, Ok, Err}
use Rattle.std.specs.Prelude.{slice_get, IfOk}
use Rattle.std.proofs.lemmas.Option.{same_Some}
use Rattle.pbs_base.specs.declared.fail.Memory.{Memory}
use Rattle.net_core.specs.declared.gate.Wire.{Wire}
use Rattle.net_core.specs.declared.gate.Gate as gate
use Rattle.net_core.specs.Rows.{Row, IsRow, value}
use Rattle.net_core.specs.Circuits.{AllThere, IsThere}
use Rattle.net_tidy.specs.declared.form.Joint.{Joint}
use Rattle.net_tidy.specs.declared.form.Form.TheVariants.{Not, Join}
use Rattle.net_tidy.specs.Forms.{form_at, joined}
use Rattle.net_tidy.specs.inner.Made.{AllFit, Makes}
use Rattle.net_tidy.proofs.Formed.{pins_there, value_at_form}
use Rattle.net_tidy.proofs.Joining.{joined_through, joined_through_back, joined_turned}

-- the wires have opposite values in every row
abbrev pub AreOpposite : List gate.Gate → Wire → Wire → Type 0
AreOpposite gates a b = (row : Row) → IsRow gates row → value row a ≡ not (value row b)

-- what is left of a join beside the third wire
abbrev pub IsLeftOver : List gate.Gate → Wire → Wire → Wire → Wire → Wire → Type 0
IsLeftOver gates whole first second b w =
    ((w ≡ second) × AreOpposite gates first b) ⊎ (((w ≡ first) × AreOpposite gates second b) ⊎ (w ≡ whole))

not_back : (a b : Bool) → a ≡ not b → b ≡ not a
not_back true true e = absurd (cc)
not_back true false e = refl
not_back false true e = refl
not_back false false e = absurd (cc)

pub opposite_front : (gates : List gate.Gate) (a b : Wire) → form_at gates a ≡ Some (Not b) → AreOpposite gates a b
opposite_front gates a b e = λ row is. value_at_form gates a (Not b) row e is

pub opposite_back : (gates : List gate.Gate) (a b : Wire) → form_at gates b ≡ Some (Not a) → AreOpposite gates a b
opposite_back gates a b e = λ row is. not_back (value row b) (value row a) (value_at_form gates b (Not a) row e is)

pub left_means : (gates : List gate.Gate) (j k : Joint) (a x y b w : Wire) (row : Row)
    → form_at gates a ≡ Some (Join k x y) → (j ≡ k → ⊥) → IsLeftOver gates a x y b w → IsRow gates row
    → joined j (value row w) (value row b) ≡ joined j (value row a) (value row b)
left_means gates j k a x y b w row e other left is =
    let whole = ap (λ v. joined j v (value row b)) (sym (value_at_form gates a (Join k x y) row e is)) in
    elim left [
      | inl (same, opposite) ↦
          ap (λ (v : Wire). joined j (value row v) (value row b)) same
          ∙ (joined_through j k other (value row x) (value row y) (value row b) (opposite row is) ∙ whole)
      | inr (inl (same, opposite)) ↦
          ap (λ (v : Wire). joined j (value row v) (value row b)) same
          ∙ (joined_through_back j k other (value row x) (value row y) (value row b) (opposite row is) ∙ whole)
      | inr (inr same) ↦ ap (λ (v : Wire). joined j (value row v) (value row b)) same
    ]

pub left_there : (gates : List gate.Gate) (k : Joint) (a x y b w : Wire) (i r : ℕ)
    → form_at gates a ≡ Some (Join k x y) → IsLeftOver gates a x y b w → AllFit i r gates
    → IsThere i r (length gates) a → IsThere i r (length gates) w
left_there gates k a x y b w i r e left fit there =
    let pins = pins_there i r gates a (Join k x y) e fit in
    elim left [
      | inl (same, opposite) ↦ subst (IsThere i r (length gates)) (sym same) (pins.each 1 y refl)
      | inr (inl (same, opposite)) ↦ subst (IsThere i r (length gates)) (sym same) (pins.each 0 x refl)
      | inr (inr same) ↦ subst (IsThere i r (length gates)) (sym same) there
    ]

pair_there : (i r n : ℕ) (a b : Wire) → IsThere i r n a → IsThere i r n b → AllThere i r n (a ∷ b ∷ [])
pair_there i r n a b p q = record { each = each }
  where
    each : (k : ℕ) (w : Wire) → slice_get (a ∷ b ∷ []) k ≡ Some w → IsThere i r n w
    each zero w e = subst (IsThere i r n) (same_Some a w e) p
    each (suc zero) w e = subst (IsThere i r n) (same_Some b w e) q
    each (suc (suc k)) w e = absurd (cc)

-- the join of the wires that stand for two others
pub makes_reduced : (result : Result Wire Memory) (old new : List gate.Gate) (j : Joint) (a b first second : Wire)
    → ((row : Row) → IsRow old row
    → joined j (value row first) (value row b) ≡ joined j (value row a) (value row b))
    → ((row : Row) → IsRow old row
    → joined j (value row second) (value row first) ≡ joined j (value row b) (value row first))
    → ((i r : ℕ) → AllFit i r old → IsThere i r (length old) a → IsThere i r (length old) first)
    → ((i r : ℕ) → AllFit i r old → IsThere i r (length old) b → IsThere i r (length old) second)
    → IfOk result (λ w. Makes old new (first ∷ second ∷ []) w (λ row. joined j (value row first) (value row second)))
    → IfOk result (λ w. Makes old new (a ∷ b ∷ []) w (λ row. joined j (value row a) (value row b)))
makes_reduced (Err x) old new j a b first second means means' there there' makes = tt
makes_reduced (Ok w) old new j a b first second means means' there there' makes =
    let pins = λ (i r : ℕ) (fit : AllFit i r old) (both : AllThere i r (length old) (a ∷ b ∷ [])).
    pair_there i r (length old) first second (there i r fit (both.each 0 a refl))
    (there' i r fit (both.each 1 b refl)) in
    record {
      rows = makes.rows;
      fewest = makes.fewest;
      most = makes.most;
      meaning = λ row is.
          let was = makes.rows row is in
          makes.meaning row is
          ∙ (joined_turned j (value row first) (value row second)
          ∙ (means' row was ∙ (joined_turned j (value row b) (value row first) ∙ means row was)));
      fit = λ i r fit both. makes.fit i r fit (pins i r fit both);
      there = λ i r fit both. makes.there i r fit (pins i r fit both);
    }
