-- Terms joined by halves.
use Rattle.std.proofs.Common.{◌≡◌, ◌≤◌, ℕ, zero, suc, ◌+◌, ◌-◌, ◌/◌, List, [], ◌∷◌, length, take, drop, map, refl, sym}
use Rattle.std.proofs.Common.{ap, subst, ◌∙◌, arith}
use Rattle.pbs_base.specs.declared.fail.Memory.{Memory}
use Rattle.std.specs.Prelude.{IfOk, Result}
use Rattle.std.proofs.lemmas.List.{length-take-le, length-drop, length-map, take-map, drop-map}
use Rattle.pbs_ast.proofs.Items.{ok_then}
use Rattle.bool_terms.specs.Terms.{Term, term_of, term_nodes}
use Rattle.bool_terms.specs.declared.Term as terms
use Rattle.pbs_expand.specs.declared.terms.Connective.{Connective}
use Rattle.pbs_expand.specs.declared.terms.Connective.TheVariants.{AndOf, OrOf}
use Rattle.pbs_expand.specs.Written.{joined, both}
use Rattle.pbs_expand.specs.inner.WrittenTerms.{IsJoined, IsWritten, weight}

length_take : {X : Type 0} (xs : List X) (n : ℕ) → n ≤ length xs → length (take n xs) ≡ n
length_take xs n fits = length-take-le n xs fits

length_drop : {X : Type 0} (xs : List X) (n : ℕ) → length (drop n xs) ≡ length xs - n
length_drop xs n = length-drop n xs

pub halves_joined : (by : Connective) (ts : List Term) (h : ℕ) (t u v : terms.Term) → 2 ≤ length ts
    → h ≡ (length ts + 1) / 2 → IsJoined by (take h ts) t → IsJoined by (drop h ts) u
    → term_of v ≡ both by (term_of t) (term_of u) → IsJoined by ts v
halves_joined by ts h t u v many half first second is = record { joins = λ room. halves room ts many half first second }
  where
    halves : (room : ℕ) (ts : List Term) → 2 ≤ length ts → h ≡ (length ts + 1) / 2 → IsJoined by (take h ts) t
        → IsJoined by (drop h ts) u → length ts ≤ room → term_of v ≡ joined room by ts
    halves room [] many half first second fits = absurd (omega (arith, many))
    halves room (a ∷ []) many half first second fits = absurd (omega (arith, many))
    halves zero (a ∷ b ∷ ts) many half first second fits = absurd (omega (arith, fits))
    halves (suc room) (a ∷ b ∷ ts) many half first second fits =
        let all = a ∷ b ∷ ts in
        let left : length (take h all) ≤ room = omega (arith, length_take all h (omega arith)) in
        let right : length (drop h all) ≤ room = omega (arith, length_drop all h) in
        let e : term_of v ≡ both by (joined room by (take h all)) (joined room by (drop h all)) =
        is ∙ ap (λ x. both by x (term_of u)) (first.joins room left)
        ∙ ap (λ x. both by (joined room by (take h all)) x) (second.joins room right) in
        e ∙ ap (λ k. both by (joined room by (take k all)) (joined room by (drop k all))) half

both_nodes : (by : Connective) (t u : Term) → term_nodes (both by t u) ≡ 1 + term_nodes t + term_nodes u
both_nodes AndOf t u = refl
both_nodes OrOf t u = refl

weight_split : (ts : List Term) (h : ℕ) → weight (take h ts) + weight (drop h ts) ≡ weight ts
weight_split ts zero = omega arith
weight_split [] (suc h) = omega arith
weight_split (t ∷ ts) (suc h) = omega (arith, weight_split ts h)

pub joined_nodes : (room : ℕ) (by : Connective) (ts : List Term) → 1 ≤ length ts → length ts ≤ room
    → term_nodes (joined room by ts) + 1 ≡ weight ts
joined_nodes zero by ts some fits = absurd (omega (arith, some, fits))
joined_nodes (suc room) by [] some fits = absurd (omega (arith, some))
joined_nodes (suc room) by (t ∷ []) some fits = omega arith
joined_nodes (suc room) by (a ∷ b ∷ ts) some fits =
    let all = a ∷ b ∷ ts in let h = (length all + 1) / 2 in
    let l = length_take all h (omega arith) in
    let r = length_drop all h in
    let left = joined_nodes room by (take h all) (omega (arith, l)) (omega (arith, l)) in
    let right = joined_nodes room by (drop h all) (omega (arith, r)) (omega (arith, r)) in
    omega (
      arith,
      left,
      right,
      both_nodes by (joined room by (take h all)) (joined room by (drop h all)),
      weight_split
          all h,
    )

pub both_joined : (by : Connective) (xs left right : List terms.Term) (n h : ℕ) (t u : terms.Term)
    (r : Result terms.Term Memory) → n ≡ length xs → 2 ≤ n → h ≡ n - n / 2 → left ≡ take h xs → right ≡ drop h xs
    → IsJoined by (map term_of left) t → IsJoined by (map term_of right) u
    → IfOk r (λ v. term_of v ≡ both by (term_of t) (term_of u)) → IfOk r (IsJoined by (map term_of xs))
both_joined by xs left right n h t u r count many half is_left is_right first second made =
    let all = map term_of xs in
    let len : length all ≡ length xs = length-map xs term_of in
    let first' : IsJoined by (take h all) t = let P : List Term
    → Type 0 = λ z. IsJoined by z t in subst P (ap (map term_of) is_left ∙ sym (take-map term_of h xs)) first in
    let second' : IsJoined by (drop h all) u = let P : List Term
    → Type 0 = λ z. IsJoined by z u in subst P (ap (map term_of) is_right ∙ sym (drop-map term_of h xs)) second in
    ok_then r made (λ v is. halves_joined by all h t u v (omega arith) (omega arith) first' second' is)

pub some_weight : (xs : List terms.Term) (nodes : ℕ) → 1 ≤ length xs → nodes ≡ weight (map term_of xs) → 1 ≤ nodes
some_weight [] nodes some is = absurd (omega (arith, some))
some_weight (x ∷ xs) nodes some is = omega (arith, is)

pub joined_written : (by : Connective) (xs : List terms.Term) (room : ℕ) (t : terms.Term) (nodes : ℕ) → 1 ≤ length xs
    → nodes ≡ weight (map term_of xs) → nodes ≤ room + 1 → IsJoined by (map term_of xs) t
    → let ts = map term_of xs in IsWritten (joined (length ts) by ts) room (record { term = t; nodes = nodes - 1 })
joined_written by xs room t nodes some is fits join =
    let ts = map term_of xs in
    let len : length ts ≡ length xs = length-map xs term_of in
    let all : term_nodes (joined (length ts) by ts) + 1 ≡ weight ts = joined_nodes (length ts) by ts (omega arith)
    (omega arith) in
    record { term = join.joins (length ts) (omega arith); nodes = omega (arith, all, is); fits = omega (arith, fits) }
