-- Words that are equal as lists of bytes.
use Rattle.std.proofs.Common.{◌≡◌, ℕ, Bool, true, false, not, nat_eq, List, [], ◌∷◌, ◌++◌, ◌+◌, ◌<◌, ◌≤◌, length}
use Rattle.std.proofs.Common.{length-take, take, arith, zero, suc, Option, Some, None, refl, sym, ap, subst, ◌∙◌}
use Rattle.std.proofs.Common.{IfSome, IfNone, get_or, rules}
use Rattle.std.specs.Prelude.{slice_get, Contains}
use Rattle.std.specs.List.{position, list_any, AllByRecursion, IsDistinct}
use Rattle.pbs_base.specs.Words.{AreDifferent}
use Rattle.std.specs.Option.{is_some}
use Rattle.std.specs.Cmp.Lexicographic.{pointwise, same_text}
use Rattle.std.proofs.lemmas.Bool.{false≢true}
use Rattle.std.proofs.lemmas.Option.{same_Some}
use Rattle.std.proofs.lemmas.Option.{slice_get-get_or, slice_get_within, get_or_from_slice_get}
use Rattle.std.proofs.lemmas.List.{take_more, get_or-take}
use Rattle.std.proofs.lemmas.Cmp.{nat_list_eq_equiv}
use Rattle.std.proofs.lemmas.Map.Views.{list_any-from_Contains, Contains-from_any}
use Rattle.std.proofs.lemmas.List.Quantifiers.{position-Some}

pub found_at : (w : List ℕ) (ws : List (List ℕ)) (r : Option ℕ) → r ≡ position (pointwise nat_eq w) ws
    → IfSome r (λ n. slice_get ws n ≡ Some w)
found_at w ws None h = search rules
found_at w ws (Some n) h =
    let p = position-Some (pointwise nat_eq w) ws n w (sym h) in
    let e : slice_get ws n ≡ Some w = slice_get-get_or ws n w p.0
    ∙ ap Some (sym (same_text w (get_or ws n w) (sym p.1))) in
    search (rules, e)

pub absent_from : (w : List ℕ) (ws : List (List ℕ)) (r : Option ℕ) → is_some r ≡ list_any (pointwise nat_eq w) ws
    → IfNone r (Contains ws w → ⊥)
absent_from w ws None h =
    let no : Contains ws w → ⊥ = λ c. false≢true (h ∙ list_any-from_Contains nat_list_eq_equiv w ws c) in
    search (rules, no)
absent_from w ws (Some n) h = search rules

not_false : (b : Bool) → not b ≡ false → b ≡ true
not_false true h = refl
not_false false h = absurd (false≢true (sym h))

pub contained : (w : List ℕ) (ws : List (List ℕ)) (b : Bool) → b ≡ not (list_any (pointwise nat_eq w) ws) → b ≡ false
    → Contains ws w
contained w ws b h e = Contains-from_any (λ x y p. same_text x y (sym p)) w ws
    (not_false (list_any (pointwise nat_eq w) ws) (sym h ∙ e))

pub not_contained : (w : List ℕ) (ws : List (List ℕ)) (b : Bool) → b ≡ not (list_any (pointwise nat_eq w) ws)
    → b ≡ true → Contains ws w → ⊥
not_contained w ws b h e c =
    let there : list_any (pointwise nat_eq w) ws ≡ true = list_any-from_Contains nat_list_eq_equiv w ws c in
    false≢true (ap not (sym there) ∙ (sym h ∙ e))

holds_at : {X : Type 0} (P : X → Type 0) (xs : List X) (n : ℕ) (x : X) → AllByRecursion P xs → slice_get xs n ≡ Some x
    → P x
holds_at P [] n x all at = absurd (cc)
holds_at P (y ∷ xs) zero x all at = subst P (same_Some y x at) all.0
holds_at P (y ∷ xs) (suc n) x all at = holds_at P xs n x all.1 at

clash : (x w : List ℕ) (ws : List (List ℕ)) (n : ℕ) → AllByRecursion (λ y. pointwise nat_eq x y ≡ false) ws → x ≡ w
    → slice_get ws n ≡ Some w → ⊥
clash x w ws n apart same at =
    let differ : pointwise nat_eq x w ≡ false = holds_at (λ y. pointwise nat_eq x y ≡ false) ws n w apart at in
    false≢true (sym differ ∙ (ap (λ y. pointwise nat_eq y w) same ∙ nat_list_eq_equiv.refl w))

once : (ws : List (List ℕ)) → IsDistinct (pointwise nat_eq) ws → (m n : ℕ) (w : List ℕ) → slice_get ws m ≡ Some w
    → slice_get ws n ≡ Some w → m ≡ n
unfolding IsDistinct
once [] distinct m n w p q = absurd (cc)
once (x ∷ ws) distinct zero zero w p q = refl
once (x ∷ ws) distinct zero (suc n) w p q = absurd (clash x w ws n distinct.0 (same_Some x w p) q)
once (x ∷ ws) distinct (suc m) zero w p q = absurd (clash x w ws m distinct.0 (same_Some x w q) p)
once (x ∷ ws) distinct (suc m) (suc n) w p q = ap suc (once ws distinct.1 m n w p q)

pub are_different : (ws : List (List ℕ)) → IsDistinct (pointwise nat_eq) ws → AreDifferent ws
are_different ws distinct = record { once = once ws distinct }

-- a list that is copied word by word from one in which no word stands twice
pub one_name_more : (names old new : List (List ℕ)) (n : ℕ) (w : List ℕ) (added : Bool) → AreDifferent names
    → slice_get names n ≡ Some w → old ≡ take n names
    → (added ≡ false → Contains old w) → (added ≡ true → new ≡ old ++ w ∷ []) → new ≡ take (n + 1) names
one_name_more names old new n w true different at so_far there grown =
    let within : n < length names = slice_get_within names n w at in
    let same : get_or names n w ≡ w = get_or_from_slice_get names n w w at in
    grown refl ∙ (ap (λ l. l ++ w ∷ []) so_far ∙ (ap (λ x. take n names ++ x ∷ []) (sym same) ∙ sym
    (take_more names n w within)))
one_name_more names old new n w false different at so_far there grown =
    let found = subst (λ l. Contains l w) so_far (there refl) in
    let few : length (take n names) ≤ n = omega (arith, length-take n names) in
    let some : length (take n names) ≤ length names = omega (arith, length-take n names) in
    let below : found.0 < n = let h = found.1 in omega arith in
    let within : found.0 < length names = let h = found.1 in omega arith in
    let is : get_or names found.0 w ≡ w = sym (get_or-take n names found.0 w below) ∙ found.2 in
    let earlier : slice_get names found.0 ≡ Some w = slice_get-get_or names found.0 w within ∙ ap Some is in
    let same : found.0 ≡ n = different.once found.0 n w earlier at in
    absurd (omega arith)
