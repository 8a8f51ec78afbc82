-- Different elements that all stand in a list are no more than the list has.
use Rattle.std.proofs.Common.{◌≡◌, ℕ, zero, suc, ◌<◌, ◌≤◌, List, [], ◌∷◌, length, get_or, Some, refl, sym, ◌∙◌, ap}
use Rattle.std.proofs.Common.{subst, arith}
use Rattle.std.specs.Prelude.{slice_get, Contains}
use Rattle.std.specs.List.{remove}
use Rattle.std.specs.List.Sorted.{IsPermutation}
use Rattle.std.proofs.lemmas.List.Sorted.{IsPermutation-remove, Contains-permutation, length_permutation}
use Rattle.std.proofs.lemmas.Option.{same_Some, slice_get-get_or}
use Rattle.pbs_ast.specs.Trees.{Tree}
use Rattle.pbs_ast.specs.Sound.{place_count}
use Rattle.pbs_edges.specs.Found.{HasFewTerms, HasManyTerms}
use Rattle.pbs_edges.specs.Effective.{effective_terms, effective_term}
use Rattle.pbs_edges.proofs.Effective.{length-effective}

-- no element stands at two places
abbrev Once : {A : Type 0} → List A → Type 0
Once {A} xs = (i j : ℕ) (x : A) → slice_get xs i ≡ Some x → slice_get xs j ≡ Some x → i ≡ j

not_first : {A : Type 0} (x z : A) (xs ys : List A) → (x ≡ z → ⊥) → Contains (x ∷ ys) z → Contains ys z
not_first x z xs ys other (zero, l, e) = absurd (other e)
not_first x z xs ys other (suc k, l, e) = (k, omega arith, e)

at_index : {A : Type 0} (xs : List A) (z : A) (c : Contains xs z) → slice_get xs c.0 ≡ Some z
at_index xs z c = slice_get-get_or xs c.0 z c.1 ∙ ap Some c.2

pub pigeonhole : {A : Type 0} (xs ys : List A) → Once xs → ((x : A) → Contains xs x → Contains ys x)
    → length xs ≤ length ys
pigeonhole [] ys once there = omega arith
pigeonhole (x ∷ xs) ys once there =
    let c = there x (zero, omega arith, refl) in
    let moved : IsPermutation ys (x ∷ remove ys c.0) = IsPermutation-remove ys c.0 x c.1 (sym c.2) in
    let rest = pigeonhole xs (remove ys c.0)
    (λ i j z a b. let e : suc i ≡ suc j = once (suc i) (suc j) z a b in omega arith)
    (λ z d.
    let old : Contains ys z = there z (suc d.0, (let l = d.1 in omega arith), d.2) in
    not_first x z xs (remove ys c.0)
    (λ e.
    let same : zero ≡ suc d.0 = once zero (suc d.0) z (ap Some e) (at_index xs z d) in omega arith)
    (Contains-permutation ys (x ∷ remove ys c.0) z moved old)) in
    let size : length (x ∷ remove ys c.0) ≡ length ys = length_permutation ys (x ∷ remove ys c.0) moved in
    omega arith

pub not_few_and_many : (main : Tree) (n : ℕ) → HasFewTerms main n → HasManyTerms main n → ⊥
not_few_and_many main n few many =
    let size : length (effective_terms main) ≡ place_count main = length-effective main in
    let fits : length many.some ≤ length few.some = pigeonhole many.some few.some many.different (λ ts c.
    let at = many.effective ts c in
    let within : at.0 < place_count main = let l = at.1 in omega arith in
    let one : slice_get (effective_terms main) at.0 ≡ Some ts = at_index (effective_terms main) ts at in
    let two : slice_get (effective_terms main) at.0 ≡ Some (get_or (effective_terms main) at.0 []) =
    slice_get-get_or (effective_terms main) at.0 [] at.1 in
    let same : effective_term main at.0 ≡ ts = same_Some (get_or (effective_terms main) at.0 []) ts (sym two ∙ one) in
    subst (λ us. Contains few.some us) same (few.all at.0 within)) in
    let a = few.few in let b = many.many in omega arith
