-- Names in lists and in tables.
use Rattle.std.proofs.Common.{◌≡◌, inl, inr, ℕ, ◌==◌, ◌+◌, Bool, true, false, cond, List, [], ◌∷◌, Option, Some, None}
use Rattle.std.proofs.Common.{refl, sym, ap, subst, ◌∙◌}
use Rattle.std.specs.Prelude.{Contains}
use Rattle.std.specs.List.{position_from}
use Rattle.std.specs.Option.{is_some}
use Rattle.std.specs.Cmp.Lexicographic.{pointwise, same_text}
use Rattle.std.proofs.lemmas.Bool.{false≢true}
use Rattle.std.proofs.lemmas.Cmp.{nat_list_eq_equiv}
use Rattle.pbs_ast.proofs.Items.{first_item, later_item, no_item, item_cases}
use Rattle.pbs_names.specs.declared.index.Numbers.{Numbers}
use Rattle.pbs_names.specs.Naming.{index_of}
use Rattle.pbs_names.specs.Numbers.{number_in, IsNumbering}

pub found : (name : List ℕ) (i n : ℕ) (names : List (List ℕ))
    → position_from (λ w. pointwise ◌==◌ w name) i names ≡ Some n → Contains names name
found name i n [] is = cc
found name i n (w ∷ ws) is = here (pointwise ◌==◌ w name) refl (found name (i + 1) n ws) is
  where
    here : (b : Bool) → pointwise ◌==◌ w name ≡ b → (position_from (λ v. pointwise ◌==◌ v name) (i + 1) ws ≡ Some n
        → Contains ws name) → cond b (Some i) (position_from (λ v. pointwise ◌==◌ v name) (i + 1) ws) ≡ Some n
        → Contains (w ∷ ws) name
    here true same later is = let P : List ℕ → Type 0 = Contains (w ∷ ws) in
        subst P (same_text w name (sym same)) (first_item w ws)
    here false same later is = later_item w ws (later is)

pub absent : (name : List ℕ) (i : ℕ) (names : List (List ℕ)) → position_from (λ w. pointwise ◌==◌ w name) i names ≡ None
    → Contains names name → ⊥
absent name i [] is here = no_item here
absent name i (w ∷ ws) is here = away (pointwise ◌==◌ w name) refl (absent name (i + 1) ws) is
  where
    away : (b : Bool) → pointwise ◌==◌ w name ≡ b → (position_from (λ v. pointwise ◌==◌ v name) (i + 1) ws ≡ None
        → Contains ws name → ⊥) → cond b (Some i) (position_from (λ v. pointwise ◌==◌ v name) (i + 1) ws) ≡ None → ⊥
    away true same later is = cc
    away false other later is = elim (item_cases w ws here) [
      | inl e ↦ false≢true (sym other ∙ ap (λ v. pointwise ◌==◌ v name) e ∙ nat_list_eq_equiv.refl name)
      | inr more ↦ later is more
    ]

some_in : (names : List (List ℕ)) (name : List ℕ) (o : Option ℕ) → index_of names name ≡ o → is_some o ≡ true
    → Contains names name
some_in names name (Some n) is there = found name 0 n names is
some_in names name None is there = cc

none_in : (names : List (List ℕ)) (name : List ℕ) (o : Option ℕ) → index_of names name ≡ o → is_some o ≡ false
    → Contains names name → ⊥
none_in names name (Some n) is there = cc
none_in names name None is there = absent name 0 names is

-- a name is in the table exactly where it is in the list
pub is_in : (names : List (List ℕ)) (numbers : Numbers) (name : List ℕ) → IsNumbering names numbers
    → is_some (number_in numbers name) ≡ true → Contains names name
is_in names numbers name index there = some_in names name (index_of names name) refl
    (ap is_some (sym (index.finds name)) ∙ there)

pub is_out : (names : List (List ℕ)) (numbers : Numbers) (name : List ℕ) → IsNumbering names numbers
    → is_some (number_in numbers name) ≡ false → Contains names name → ⊥
is_out names numbers name index there = none_in names name (index_of names name) refl
    (ap is_some (sym (index.finds name)) ∙ there)
