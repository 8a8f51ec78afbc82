-- Room by the table of pairs is room by the definition, and what the first group with room becomes.
use Rattle.std.proofs.Common.{◌≡◌, ℕ, zero, suc, ◌<◌, true, false, not, inl, inr, List, []}
use Rattle.std.proofs.Common.{◌∷◌, ◌++◌, length, get_or, set, refl, sym, ◌∙◌, ap, subst, arith}
use Rattle.std.specs.Prelude.{nat_lt, Contains}
use Rattle.std.proofs.lemmas.Bool.{and_parts, and_from, or_cases, or_left, or_right, both_ways, false≢true, lt-ltb}
use Rattle.std.proofs.lemmas.Bool.{ltb-true}
use Rattle.std.proofs.lemmas.List.Elements.{Contains-push_cases}
use Rattle.pbs_ast.specs.Trees.{Tree}
use Rattle.pbs_ast.specs.Sound.{place_count}
use Rattle.pbs_derive.proofs.Positions.{not_true_from, not_false_to}
use Rattle.pbs_edges.proofs.Listed.{OneOf}
use Rattle.pbs_edges.proofs.Sorted.{contains_from, contains_to}
use Rattle.pbs_overlap.specs.declared.pairs.Pairs.{Pairs}
use Rattle.pbs_overlap.specs.Told.{says, TellsTogether}
use Rattle.pbs_overlap.proofs.Plans.{any_default}
use Rattle.pbs_codes.specs.Groups.{HasRoom, Joins, makes, goes, passes}
use Rattle.pbs_codes.specs.inner.Rooms.{meets, has_room, AreWithin}

meets_from : (pairs : Pairs) (group : List ℕ) (p q : ℕ) → OneOf group q → says pairs q p ≡ true
    → meets pairs group p ≡ true
meets_from pairs [] p q h t = absurd h
meets_from pairs (x ∷ group) p q h t = elim h [
  | inl e ↦ or_left (says pairs x p) (meets pairs group p) (subst (λ y. says pairs y p ≡ true) (sym e) t)
  | inr m ↦ or_right (says pairs x p) (meets pairs group p) (meets_from pairs group p q m t)
]

meets_to : (pairs : Pairs) (group : List ℕ) (p : ℕ) → meets pairs group p ≡ true
    → (q : ℕ) × OneOf group q × (says pairs q p ≡ true)
meets_to pairs [] p h = absurd (false≢true h)
meets_to pairs (x ∷ group) p h = elim (or_cases (says pairs x p) (meets pairs group p) h) [
  | inl t ↦ (x, inl refl, t)
  | inr m ↦ let r = meets_to pairs group p m in (r.0, inr r.1, r.2)
]

module _ (main : Tree) (pairs : Pairs) (tells : TellsTogether main pairs) (p : ℕ) (place : p < pairs.places) where
  counted : (q : ℕ) → q < pairs.places → q < place_count main
  counted q l = subst (λ n. q < n) tells.places l

  room_to : (group : List ℕ) → ((q : ℕ) → Contains group q → q < pairs.places) → has_room pairs group p ≡ true
      → HasRoom main group p
  room_to group within h =
      let a = and_parts (nat_lt (length group) 7) (not (meets pairs group p)) h in
      record {
        few = ltb-true (length group) 7 a.0;
        apart = λ q c t. not_false_to (meets pairs group p) a.1 (meets_from pairs group p q (contains_to group q c)
            ((tells.exact q p (counted q (within q c)) (counted p place)).1 t));
      }

  room_from : (group : List ℕ) → ((q : ℕ) → Contains group q → q < pairs.places) → HasRoom main group p
      → has_room pairs group p ≡ true
  room_from group within r =
      and_from (nat_lt (length group) 7) (not (meets pairs group p)) (lt-ltb (length group) 7 r.few)
      (not_true_from (meets pairs group p) (λ m.
      let w = meets_to pairs group p m in
      let c = contains_from group w.0 w.1 in
      r.apart w.0 c ((tells.exact w.0 p (counted w.0 (within w.0 c)) (counted p place)).0 w.2)))

  no_room : (group : List ℕ) → ((q : ℕ) → Contains group q → q < pairs.places) → has_room pairs group p ≡ false
      → HasRoom main group p → ⊥
  no_room group within h r = both_ways (has_room pairs group p) h (room_from group within r)

  -- it goes to the first group with room
  pub joins_at : (groups : List (List ℕ)) (n : ℕ) → AreWithin pairs groups → n < length groups
      → has_room pairs (get_or groups n []) p ≡ true
      → ((m : ℕ) → m < n → has_room pairs (get_or groups m []) p ≡ false)
      → Joins main p groups (set groups n (get_or groups n [] ++ p ∷ []))
  joins_at [] n within l h before = absurd (omega arith)
  joins_at (group ∷ groups) zero within l h before = goes (room_to group (within 0) h)
  joins_at (group ∷ groups) (suc n) within l h before =
      passes (no_room group (within 0) (before 0 (omega arith)))
      (joins_at groups n (λ m q. within (suc m) q) (omega arith) h (λ m less. before (suc m) (omega arith)))

  -- and where there is none it makes a new one
  pub joins_none : (groups : List (List ℕ)) → AreWithin pairs groups
      → ((m : ℕ) → m < length groups → has_room pairs (get_or groups m []) p ≡ false)
      → Joins main p groups (groups ++ (p ∷ []) ∷ [])
  joins_none [] within none = makes
  joins_none (group ∷ groups) within none =
      passes (no_room group (within 0) (none 0 (omega arith)))
      (joins_none groups (λ m q. within (suc m) q) (λ m less. none (suc m) (omega arith)))

module _ (pairs : Pairs) (p : ℕ) (place : p < pairs.places) where
  within_more : (group : List ℕ) → ((q : ℕ) → Contains group q → q < pairs.places) → (q : ℕ)
      → Contains (group ++ p ∷ []) q → q < pairs.places
  within_more group within q c = elim (Contains-push_cases group p q c) [
    | inl h ↦ within q h
    | inr e ↦ subst (λ x. x < pairs.places) e place
  ]

  pub within_set : (groups : List (List ℕ)) (n : ℕ) → AreWithin pairs groups
      → AreWithin pairs (set groups n (get_or groups n [] ++ p ∷ []))
  within_set [] n within m q c = within m q c
  within_set (group ∷ groups) zero within zero q c = within_more group (within 0) q c
  within_set (group ∷ groups) zero within (suc m) q c = within (suc m) q c
  within_set (group ∷ groups) (suc n) within zero q c = within zero q c
  within_set (group ∷ groups) (suc n) within (suc m) q c = within_set groups n (λ i x. within (suc i) x) m q c

  pub within_push : (groups : List (List ℕ)) → AreWithin pairs groups → AreWithin pairs (groups ++ (p ∷ []) ∷ [])
  within_push [] within zero q c = within_more [] (λ x h. within 0 x h) q c
  within_push [] within (suc m) q c = within m q c
  within_push (group ∷ groups) within zero q c = within zero q c
  within_push (group ∷ groups) within (suc m) q c = within_push groups (λ i x. within (suc i) x) m q c

-- what a member is added to
pub pushed_to : (groups : List (List ℕ)) (n p : ℕ) (group pushed : List ℕ) → n < length groups
    → group ≡ get_or groups n group → pushed ≡ group ++ p ∷ [] → pushed ≡ get_or groups n [] ++ p ∷ []
pushed_to groups n p group pushed l e f = f
    ∙ ap (λ g. g ++ p ∷ []) (e ∙ any_default groups n group [] l)
