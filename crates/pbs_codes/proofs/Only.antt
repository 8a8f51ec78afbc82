-- A tree has one plan.
use Rattle.std.proofs.Common.{◌≡◌, ℕ, ◌<◌, inl, inr, List, [], ◌∷◌, ◌++◌, refl, sym, ◌∙◌, ap, subst, arith, length}
use Rattle.std.specs.Prelude.{Contains}
use Rattle.std.specs.List.Sorted.{IsStrictlyIncreasing}
use Rattle.std.proofs.lemmas.Grind.{same_number_lists}
use Rattle.std.proofs.lemmas.List.{same_from_push, length_push}
use Rattle.pbs_ast.specs.Trees.{Tree}
use Rattle.pbs_ast.specs.Sound.{place_count}
use Rattle.pbs_edges.proofs.Listed.{OneOf}
use Rattle.pbs_edges.proofs.Sorted.{contains_from, contains_to}
use Rattle.pbs_codes.specs.Groups.{Joins, makes, goes, passes, Grouped, none_taken, taken}
use Rattle.pbs_codes.specs.Twins.{IsLeaderOf}
use Rattle.net_core.specs.Plans.{leader_of}
use Rattle.pbs_codes.specs.Plans.{IsCodePlan}
use Rattle.net_core.specs.declared.codes.CodePlan.{CodePlan}
use Rattle.pbs_codes.proofs.Once.{above_first, increasing_rest}
use Rattle.pbs_codes.proofs.Wholes.{same_lowest}

rest_of : (x z : ℕ) (xs ys : List ℕ) → IsStrictlyIncreasing (x ∷ xs) → OneOf xs z → OneOf (x ∷ ys) z → OneOf ys z
rest_of x z xs ys rise m h = elim h [
  | inl e ↦ absurd (let up = above_first x z xs rise m in omega arith)
  | inr t ↦ t
]

-- rising lists with the same members are equal
same_members : (xs ys : List ℕ) → IsStrictlyIncreasing xs → IsStrictlyIncreasing ys
    → ((x : ℕ) → OneOf xs x → OneOf ys x)
    → ((x : ℕ) → OneOf ys x → OneOf xs x) → xs ≡ ys
same_members [] [] rise up to back = refl
same_members [] (y ∷ ys) rise up to back = absurd (back y (inl refl))
same_members (x ∷ xs) [] rise up to back = absurd (to x (inl refl))
same_members (x ∷ xs) (y ∷ ys) rise up to back =
    let head : x ≡ y = elim (to x (inl refl)) [
      | inl e ↦ sym e
      | inr later ↦ elim (back y (inl refl)) [
        | inl e ↦ e
        | inr after ↦
            let low = above_first x y xs rise after in
            let high = above_first y x ys up later in
            absurd (omega arith)
      ]
    ] in
    let rest : xs ≡ ys = same_members xs ys (increasing_rest x xs rise) (increasing_rest y ys up)
    (λ z m. rest_of x z xs ys rise m (subst (λ w. OneOf (w ∷ ys) z) (sym head) (to z (inr m))))
    (λ z m. rest_of y z ys xs up m (subst (λ w. OneOf (w ∷ xs) z) head (back z (inr m)))) in
    ap (λ w. w ∷ xs) head ∙ ap (λ ws. y ∷ ws) rest

same_listed : (xs ys : List ℕ) → IsStrictlyIncreasing xs → IsStrictlyIncreasing ys
    → ((x : ℕ) → Contains xs x → Contains ys x) → ((x : ℕ) → Contains ys x → Contains xs x) → xs ≡ ys
same_listed xs ys rise up to back = same_members xs ys rise up
    (λ x m. contains_to ys x (to x (contains_from xs x m)))
    (λ x m. contains_to xs x (back x (contains_from ys x m)))

no_push : (xs : List ℕ) (p : ℕ) → [] ≡ xs ++ p ∷ [] → ⊥
no_push xs p e = let size = length_push xs p in let none = ap length e in omega (arith, size, none)

module _ (main : Tree) where
  same_joined : {p : ℕ} {before after other : List (List ℕ)} → Joins main p before after → Joins main p before other
      → after ≡ other
  same_joined makes makes = refl
  same_joined (goes room) (goes same) = refl
  same_joined (goes room) (passes none later) = absurd (none room)
  same_joined (passes none later) (goes room) = absurd (none room)
  same_joined (passes {group = group} none later) (passes also behind) =
      ap (λ groups. group ∷ groups) (same_joined later behind)

  same_grouped : {xs ys : List ℕ} {groups others : List (List ℕ)} → Grouped main xs groups → Grouped main ys others
      → xs ≡ ys → groups ≡ others
  same_grouped none_taken none_taken e = refl
  same_grouped none_taken (taken {leaders = ys} {p = q} other rejoins) e = absurd (no_push ys q e)
  same_grouped (taken {leaders = xs} {p = p} before joins) none_taken e = absurd (no_push xs p (sym e))
  same_grouped (taken {leaders = xs} {before = old} {p = p} before joins)
      (taken {leaders = ys} {before = past} {after = others} {p = q} other rejoins) e =
      let split = same_from_push xs ys p q e in
      let front : old ≡ past = same_grouped before other split.0 in
      same_joined joins (subst (λ r. Joins main r old others) (sym split.1)
      (subst (λ groups. Joins main q groups others) (sym front) rejoins))

same_leader : (main : Tree) (p l m : ℕ) → IsLeaderOf main p l → IsLeaderOf main p m → l ≡ m
same_leader main p l m a b = elim a [
  | inl idle ↦ elim b [ inl also ↦ idle.1 ∙ sym also.1 | inr led ↦ absurd (idle.0 led.twin.first) ]
  | inr led ↦ elim b [ inl idle ↦ absurd (idle.0 led.twin.first) | inr also ↦ same_lowest main p l m led also ]
]

module _ (main : Tree) (plan other : CodePlan) (right : IsCodePlan main plan) (also : IsCodePlan main other) where
  same_never : plan.never ≡ other.never
  same_never = same_listed plan.never other.never right.never_rise also.never_rise
      (λ p c. (also.never p).1 ((right.never p).0 c)) (λ p c. (right.never p).1 ((also.never p).0 c))

  same_leaders : plan.leaders ≡ other.leaders
  same_leaders = same_number_lists plan.leaders other.leaders (right.each ∙ sym also.each)
      (λ p l. let less : p < place_count main = rw right.each at l in
      same_leader main p (leader_of plan p) (leader_of other p) (right.leaders p less) (also.leaders p less))

  same_groups : plan.groups ≡ other.groups
  same_groups =
      let mine = right.groups.1 in
      let yours = also.groups.1 in
      let leaders : right.groups.0 ≡ also.groups.0 = same_listed right.groups.0 also.groups.0 mine.rise yours.rise
      (λ p c. (yours.exact p).1 ((mine.exact p).0 c)) (λ p c. (mine.exact p).1 ((yours.exact p).0 c)) in
      same_grouped main right.groups.2 also.groups.2 leaders

  pub same_plan : plan ≡ other
  same_plan =
      let with_never : List ℕ → CodePlan = λ xs. record { never = xs; leaders = plan.leaders; groups = plan.groups } in
      let with_leaders : List ℕ → CodePlan = λ xs. record { never = other.never; leaders = xs; groups = plan.groups } in
      let with_groups : List (List ℕ) → CodePlan =
      λ gs. record { never = other.never; leaders = other.leaders; groups = gs } in
      ap with_never same_never ∙ (ap with_leaders same_leaders ∙ ap with_groups same_groups)
