-- What the limits of rule 12 say of the tree of an accepted specification.
use Rattle.std.proofs.Common.{◌≡◌, ℕ, ◌+◌, ◌≤◌, List, [], ◌∷◌, Bool, true, false, Option, Some, None, refl, arith}
use Rattle.std.specs.Prelude.{not, ◌&&◌, if◌then◌else◌, nat_le}
use Rattle.std.proofs.lemmas.Bool.Decides.{nat_tests}
use Rattle.pbs_base.specs.declared.refusal.Span.{Span}
use Rattle.bool_terms.specs.Terms.{Term, Const, Input, Not, And, Or, term_nodes, input_leaves}
use Rattle.pbs_ast.specs.Trees.{Tree, Empty, Terminal, Action, Seq, Choice, Star, Hold, Scope}
use Rattle.pbs_ast.specs.Sound.{node_count, place_count, tree_input_leaves}
use Rattle.pbs_ast.specs.declared.syntax.Spec.{Spec}
use Rattle.pbs_expand.specs.declared.build.Counters.{Counters}
use Rattle.pbs_expand.specs.Counting.{sum_of, fits}
use Rattle.pbs_expand.specs.Visits.{Visit, visits, after_visits, first_over}
use Rattle.pbs_expand.specs.Expanded.{nothing_yet, main_walk, expanded, over_limit, over_width, first_refusal, refusal}
use Rattle.pbs_expand.proofs.Counted.{none_over}
use Rattle.pbs_expand.proofs.Limits.{adds}
use Rattle.std.proofs.lemmas.Bool.{and_parts}

-- the counters are within the limits
record IsWithin (c : Counters) : Type 0 where
  counts : c.counts ≤ 32768
  places : c.places ≤ 4096

fits-within : (c d : Counters) → fits c d ≡ true → IsWithin (sum_of c d)
fits-within c d h =
    let two = and_parts (nat_le (c.counts + d.counts) 32768) (nat_le (c.places + d.places) 4096) h in
    record { counts = below (c.counts + d.counts) 32768 two.0; places = below (c.places + d.places) 4096 two.1 }
  where
    below : (m n : ℕ) → nat_le m n ≡ true → m ≤ n
    below m n h = grind (arith, nat_tests)

visits_within : (vs : List Visit) (c : Counters) → IsWithin c → first_over c vs ≡ None → IsWithin (after_visits c vs)
visits_within [] c h none = h
visits_within (v ∷ vs) c h none =
    by (not v.too_deep && fits c v.cost) refl (λ i none. visits_within vs (sum_of c v.cost) i none) none
  where
    by : (b : Bool) → (not v.too_deep && fits c v.cost) ≡ b
        → (IsWithin (sum_of c v.cost) → first_over (sum_of c v.cost) vs ≡ None
        → IsWithin (after_visits (sum_of c v.cost) vs))
        → (if b then first_over (sum_of c v.cost) vs else Some v.span) ≡ None
        → IsWithin (after_visits (sum_of c v.cost) vs)
    by true e on none = on (fits-within c v.cost (and_parts (not v.too_deep) (fits c v.cost) e).1) none
    by false e on none = absurd cc

none_first : (a b : Option Span) → first_refusal a b ≡ None → a ≡ None
none_first None b h = refl
none_first (Some span) b h = absurd cc

-- ---- input leaves are nodes

term_leaves : (t : Term) → input_leaves t ≤ term_nodes t
term_leaves (Const b) = omega arith
term_leaves (Input n) = omega arith
term_leaves (Not t) = let h = term_leaves t in omega arith
term_leaves (And a b) = let h = term_leaves a in let k = term_leaves b in omega arith
term_leaves (Or a b) = let h = term_leaves a in let k = term_leaves b in omega arith

leaves_few : (e : Tree) → tree_input_leaves e ≤ node_count e
leaves_few (Empty at) = omega arith
leaves_few (Terminal at p t) = let h = term_leaves t in omega arith
leaves_few (Action at a) = omega arith
leaves_few (Seq at e f) = let h = leaves_few e in let k = leaves_few f in omega arith
leaves_few (Choice at e f) = let h = leaves_few e in let k = leaves_few f in omega arith
leaves_few (Star at e) = let h = leaves_few e in omega arith
leaves_few (Hold at t e) = let h = term_leaves t in let k = leaves_few e in omega arith
leaves_few (Scope at s e x h) =
    let i = leaves_few e in let j = leaves_few x in let k = leaves_few h in omega arith

-- ---- places are nodes

pub places_few : (e : Tree) → place_count e ≤ node_count e
places_few (Empty at) = omega arith
places_few (Terminal at p t) = omega arith
places_few (Action at a) = omega arith
places_few (Seq at e f) = let h = places_few e in let k = places_few f in omega arith
places_few (Choice at e f) = let h = places_few e in let k = places_few f in omega arith
places_few (Star at e) = let h = places_few e in omega arith
places_few (Hold at t e) = let h = places_few e in omega arith
places_few (Scope at s e x h) =
    let i = places_few e in let j = places_few x in let k = places_few h in omega arith

-- ---- the tree

pub record IsSmall (main : Tree) : Type 0 where
  pub nodes : node_count main ≤ 32768
  pub places : place_count main ≤ 4096
  pub leaves : tree_input_leaves main ≤ 32768

pub small : (spec : Spec) → refusal spec ≡ None → IsSmall (expanded spec)
small spec none =
    let w = main_walk spec in
    let over : first_over nothing_yet (visits w) ≡ None = none_first (over_limit spec) (over_width spec) none in
    let within = visits_within (visits w) nothing_yet (record { counts = omega arith; places = omega arith }) over in
    let a = adds w nothing_yet (none_over w nothing_yet over) in
    let counts = within.counts in
    let places = within.places in
    let added = a.counts in
    let placed = a.places in
    let few = leaves_few (expanded spec) in
    record { nodes = omega arith; places = omega arith; leaves = omega arith }
