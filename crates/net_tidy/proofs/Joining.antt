-- Joins of two values.
use Rattle.std.proofs.Common.{◌≡◌, ◌⊎◌, inl, inr, Bool, true, false, not, refl, sym, ap, ◌∙◌}
use Rattle.std.proofs.lemmas.Bool.{false≢true}
use Rattle.net_tidy.specs.declared.form.Joint.{Joint}
use Rattle.net_tidy.specs.declared.form.Joint.TheVariants.{All, Any}
use Rattle.net_tidy.specs.Forms.{joined, joint_unit}

pub joined_turned : (j : Joint) (a b : Bool) → joined j a b ≡ joined j b a
joined_turned All true true = refl
joined_turned All true false = refl
joined_turned All false true = refl
joined_turned All false false = refl
joined_turned Any true true = refl
joined_turned Any true false = refl
joined_turned Any false true = refl
joined_turned Any false false = refl

-- a value and its negation
pub joined_opposite : (j : Joint) (a b : Bool) → a ≡ not b → not (joint_unit j) ≡ joined j a b
joined_opposite All true true e = sym e
joined_opposite All true false e = refl
joined_opposite All false true e = refl
joined_opposite All false false e = refl
joined_opposite Any true true e = refl
joined_opposite Any true false e = refl
joined_opposite Any false true e = refl
joined_opposite Any false false e = sym e

front_alike : (j : Joint) (x y : Bool) → joined j x y ≡ joined j (joined j x y) x
front_alike All true true = refl
front_alike All true false = refl
front_alike All false true = refl
front_alike All false false = refl
front_alike Any true true = refl
front_alike Any true false = refl
front_alike Any false true = refl
front_alike Any false false = refl

back_alike : (j : Joint) (x y : Bool) → joined j x y ≡ joined j (joined j x y) y
back_alike All true true = refl
back_alike All true false = refl
back_alike All false true = refl
back_alike All false false = refl
back_alike Any true true = refl
back_alike Any true false = refl
back_alike Any false true = refl
back_alike Any false false = refl

-- a join with a value that it is made of
pub joined_alike : (j : Joint) (x y b : Bool) → (x ≡ b) ⊎ (y ≡ b) → joined j x y ≡ joined j (joined j x y) b
joined_alike j x y b (inl e) = front_alike j x y ∙ ap (joined j (joined j x y)) e
joined_alike j x y b (inr e) = back_alike j x y ∙ ap (joined j (joined j x y)) e

front_other : (j k : Joint) → (j ≡ k → ⊥) → (x y : Bool) → x ≡ joined j (joined k x y) x
front_other All All h x y = absurd (h refl)
front_other Any Any h x y = absurd (h refl)
front_other All Any h true y = refl
front_other All Any h false true = refl
front_other All Any h false false = refl
front_other Any All h true true = refl
front_other Any All h true false = refl
front_other Any All h false y = refl

back_other : (j k : Joint) → (j ≡ k → ⊥) → (x y : Bool) → y ≡ joined j (joined k x y) y
back_other j k h x y = front_other j k h y x ∙ ap (λ v. joined j v y) (joined_turned k y x)

-- the join of a value with a join of the other kind that is made of it
pub joined_other : (j k : Joint) → (j ≡ k → ⊥) → (x y b : Bool) → (x ≡ b) ⊎ (y ≡ b) → b ≡ joined j (joined k x y) b
joined_other j k h x y b (inl e) = sym e ∙ front_other j k h x y ∙ ap (joined j (joined k x y)) e
joined_other j k h x y b (inr e) = sym e ∙ back_other j k h x y ∙ ap (joined j (joined k x y)) e

-- the join of a value with a join of the other kind of its opposite and a third value
pub joined_through : (j k : Joint) → (j ≡ k → ⊥) → (x y b : Bool) → x ≡ not b → joined j y b ≡ joined j (joined k x y) b
joined_through All All h x y b e = absurd (h refl)
joined_through Any Any h x y b e = absurd (h refl)
joined_through All Any h true y true e = absurd (false≢true (sym e))
joined_through All Any h true true false e = refl
joined_through All Any h true false false e = refl
joined_through All Any h false y b e = refl
joined_through Any All h true y b e = refl
joined_through Any All h false true true e = refl
joined_through Any All h false false true e = refl
joined_through Any All h false y false e = absurd (false≢true e)

pub joined_through_back : (j k : Joint) → (j ≡ k → ⊥) → (x y b : Bool) → y ≡ not b
    → joined j x b ≡ joined j (joined k x y) b
joined_through_back j k h x y b e = joined_through j k h y x b e ∙ ap (λ v. joined j v b) (joined_turned k y x)
