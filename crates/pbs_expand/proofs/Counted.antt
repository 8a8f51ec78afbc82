-- The tree of a walk that passes no limit.
use Rattle.std.proofs.Common.{◌≡◌, ◌≤◌, ◌<◌, ℕ, zero, suc, ◌+◌, ◌/◌, Bool, true, false, ◌&&◌, List, [], ◌∷◌, ◌++◌, ◌==◌}
use Rattle.std.proofs.Common.{Option, Some, None, length, take, drop, refl, sym, ◌∙◌, arith, nat_lt}
use Rattle.std.specs.Prelude.{if◌then◌else◌}
use Rattle.std.specs.Cmp.Lexicographic.{pointwise}
use Rattle.std.proofs.lemmas.Bool.Decides.{nat_tests}
use Rattle.std.proofs.lemmas.Bool.{and_parts, and_from}
use Rattle.pbs_base.specs.declared.refusal.Span.{Span}
use Rattle.bool_terms.specs.Terms.{Term, term_inputs_below, Input, Not}
use Rattle.pbs_ast.specs.Sound.{tree_depth, inputs_below, actions_below}
use Rattle.pbs_base.specs.Entries.{bit}
use Rattle.pbs_ast.specs.declared.syntax.Decl.{Decl}
use Rattle.pbs_ast.specs.declared.syntax.Spec.{Spec}
use Rattle.pbs_names.specs.Naming.{index_of, input_names, action_names, bus_of}
use Rattle.pbs_names.specs.declared.buses.Bus.{Bus}
use Rattle.pbs_ast.specs.declared.syntax.SpecTerm as terms
use Rattle.pbs_ast.specs.declared.syntax.SpecTerm.{Row_of-SpecTerm, end_of-SpecTerm, more_of-SpecTerm}
use Rattle.pbs_expand.specs.declared.parts.Pairing.TheVariants.{Sequence, Choice}
use Rattle.pbs_expand.specs.declared.build.Counters.{Counters}
use Rattle.pbs_expand.specs.declared.terms.Connective.{Connective}
use Rattle.pbs_expand.specs.declared.terms.Connective.TheVariants.{AndOf, OrOf}
use Rattle.pbs_expand.specs.Counting.{sum_of, fits, name_cost, node_cost, hold_cost, scope_cost}
use Rattle.pbs_expand.specs.Parts as parts
use Rattle.pbs_expand.specs.Parts.{Part, Shape, shape}
use Rattle.pbs_expand.specs.Walks.{Walk, Beyond, Empty, Terminal, Action, Name, Star, Hold, Pair, Scope, walk, walked}
use Rattle.pbs_expand.specs.Walks.{action_walk, complete}
use Rattle.pbs_expand.specs.Written.{joined, both, empty_term, written, written_row, named_term, literals, equal_term}
use Rattle.pbs_expand.specs.Visits.{Visit, visits, after_visits, first_over, numbered}
use Rattle.pbs_names.proofs.NameLemmas.{number_within, bus_within}
use Rattle.pbs_expand.proofs.VisitLaws.{or_else, first_over-append}

neither : (a b : Option Span) → or_else a b ≡ None → (a ≡ None) × (b ≡ None)
neither None b h = (refl, h)
neither (Some span) b h = cc

went_on : (b : Bool) (o : Option Span) (span : Span) → (if b then o else Some span) ≡ None → o ≡ None
went_on true o span h = h
went_on false o span h = cc

parts_none : (xs ys : List Visit) (c : Counters) → first_over c (xs ++ ys) ≡ None
    → (first_over c xs ≡ None) × (first_over (after_visits c xs) ys ≡ None)
parts_none xs ys c h = neither _ _ (sym (first_over-append xs ys c) ∙ h)

-- a walk that passes no limit is complete
pub none_over : (w : Walk) (c : Counters) → first_over c (visits w) ≡ None → complete w ≡ true
none_over (Beyond span) c h = cc
none_over (Empty span) c h = refl
none_over (Terminal span t) c h = refl
none_over (Action span a) c h = refl
none_over (Name span w) c h = none_over w (sum_of c name_cost) (went_on (fits c name_cost) _ span h)
none_over (Star span w) c h = none_over w (sum_of c node_cost) (went_on (fits c node_cost) _ span h)
none_over (Hold span b w) c h = none_over w (sum_of c (hold_cost b)) (went_on (fits c (hold_cost b)) _ span h)
none_over (Pair span by v w) c h =
    let d = sum_of c node_cost in
    let two = parts_none (visits v) (visits w) d (went_on (fits c node_cost) _ span h) in
    and_from _ _ (none_over v d two.0) (none_over w (after_visits d (visits v)) two.1)
none_over (Scope span v w x) c h =
    let d = sum_of c scope_cost in
    let two = parts_none (visits v) (visits w ++ visits x) d (went_on (fits c scope_cost) _ span h) in
    let rest = parts_none (visits w) (visits x) (after_visits d (visits v)) two.1 in
    and_from _ _ (none_over v d two.0) (and_from _ _ (none_over w (after_visits d (visits v)) rest.0)
    (none_over x (after_visits (after_visits d (visits v)) (visits w)) rest.1))

shallow_action : (span : Span) (o : Option ℕ) (room : ℕ) (c : Counters)
    → tree_depth (numbered (action_walk span o) c) ≤ suc room
shallow_action span (Some n) room c = omega arith
shallow_action span None room c = omega arith

shallow_node : (spec : Spec) (w : Part → Walk) (room : ℕ)
    → ((p : Part) (c : Counters) → complete (w p) ≡ true → tree_depth (numbered (w p) c) ≤ room)
    → (s : Shape) (c : Counters) → complete (walked spec w s) ≡ true
    → tree_depth (numbered (walked spec w s) c) ≤ suc room
shallow_node spec w room below (parts.Empty span) c whole = omega arith
shallow_node spec w room below (parts.Terminal span t) c whole = omega arith
shallow_node spec w room below (parts.Action span name) c whole = shallow_action span
    (index_of (action_names spec.actions) name) room c
shallow_node spec w room below (parts.Name span p) c whole = omega (arith, below p (sum_of c name_cost) whole)
shallow_node spec w room below (parts.Star span p) c whole = omega (arith, below p (sum_of c node_cost) whole)
shallow_node spec w room below (parts.Hold span t p) c whole = omega
    (arith, below p (sum_of c (hold_cost (written spec.inputs t))) whole)
shallow_node spec w room below (parts.Pair span Sequence p q) c whole =
    let d = sum_of c node_cost in let two = and_parts (complete (w p)) (complete (w q)) whole in
    omega (arith, below p d two.0, below q (after_visits d (visits (w p))) two.1)
shallow_node spec w room below (parts.Pair span Choice p q) c whole =
    let d = sum_of c node_cost in let two = and_parts (complete (w p)) (complete (w q)) whole in
    omega (arith, below p d two.0, below q (after_visits d (visits (w p))) two.1)
shallow_node spec w room below (parts.Scope span p q r) c whole =
    let d = sum_of c scope_cost in let e = after_visits d (visits (w p)) in
    let two = and_parts (complete (w p)) (complete (w q) && complete (w r)) whole in let rest = and_parts
    (complete (w q)) (complete (w r)) two.1 in
    omega (arith, below p d two.0, below q e rest.0, below r (after_visits e (visits (w q))) rest.1)

-- a complete walk is no deeper than its levels
pub shallow : (spec : Spec) (room : ℕ) (p : Part) (c : Counters) → complete (walk spec room p) ≡ true
    → tree_depth (numbered (walk spec room p) c) ≤ room
unfolding walk
shallow spec zero p c whole = cc
shallow spec (suc room) p c whole = shallow_node spec (walk spec room) room (shallow spec room) (shape spec.prods p) c
    whole

abbrev all_below : ℕ → List Term → Bool
all_below n [] = true
all_below n (t ∷ ts) = term_inputs_below n t && all_below n ts

below_take : (n : ℕ) (ts : List Term) (k : ℕ) → all_below n ts ≡ true → all_below n (take k ts) ≡ true
below_take n ts zero h = refl
below_take n [] (suc k) h = refl
below_take n (t ∷ ts) (suc k) h = let two = and_parts (term_inputs_below n t) (all_below n ts) h in and_from _ _
    two.0 (below_take n ts k two.1)

below_drop : (n : ℕ) (ts : List Term) (k : ℕ) → all_below n ts ≡ true → all_below n (drop k ts) ≡ true
below_drop n ts zero h = h
below_drop n [] (suc k) h = refl
below_drop n (t ∷ ts) (suc k) h = below_drop n ts k (and_parts (term_inputs_below n t) (all_below n ts) h).1

below_both : (n : ℕ) (by : Connective) (t u : Term) → term_inputs_below n t ≡ true → term_inputs_below n u ≡ true
    → term_inputs_below n (both by t u) ≡ true
below_both n AndOf t u p q = and_from _ _ p q
below_both n OrOf t u p q = and_from _ _ p q

below_empty : (n : ℕ) (by : Connective) → term_inputs_below n (empty_term by) ≡ true
below_empty n AndOf = refl
below_empty n OrOf = refl

below_joined : (n room : ℕ) (by : Connective) (ts : List Term) → all_below n ts ≡ true
    → term_inputs_below n (joined room by ts) ≡ true
below_joined n zero by ts h = below_empty n by
below_joined n (suc room) by [] h = below_empty n by
below_joined n (suc room) by (t ∷ []) h = (and_parts (term_inputs_below n t) true h).0
below_joined n (suc room) by (t ∷ u ∷ ts) h =
    let all = t ∷ u ∷ ts in let half = (length all + 1) / 2 in
    below_both n by (joined room by (take half all)) (joined room by (drop half all))
    (below_joined n room by (take half all) (below_take n all half h))
    (below_joined n room by (drop half all) (below_drop n all half h))

below_test : (k n : ℕ) → k < n → nat_lt k n ≡ true
below_test k n h = grind (arith, nat_tests)

below_named : (n : ℕ) (names : List (List ℕ)) (r : Option ℕ) (name : List ℕ) → length names ≤ n
    → index_of names name ≡ r → term_inputs_below n (named_term r) ≡ true
below_named n names None name few is = refl
below_named n names (Some k) name few is = below_test k n
    (omega (arith, (number_within (λ w. pointwise ◌==◌ w name) 0 k names is).1))

below_literals : (n start number k count : ℕ) → start + (k + count) ≤ n
    → all_below n (literals start number k count) ≡ true
below_literals n start number k zero fits = refl
below_literals n start number k (suc count) fits =
    and_from _ _ (below_literal (bit k number)) (below_literals n start number (k + 1) count (omega (arith, fits)))
  where
    below_literal : (b : Bool) → term_inputs_below n (if b then Input (start + k) else Not (Input (start + k))) ≡ true
    below_literal true = below_test (start + k) n (omega (arith, fits))
    below_literal false = below_test (start + k) n (omega (arith, fits))

below_equal : (n : ℕ) (inputs : List Decl) (r : Option Bus) (name : List ℕ) (number : ℕ)
    → length (input_names inputs) ≤ n → bus_of inputs name ≡ r → term_inputs_below n (equal_term r number) ≡ true
below_equal n inputs None name number few is = refl
below_equal n inputs (Some bus) name number few is =
    let within = bus_within 0 inputs name bus is in
    let ts = literals bus.start number 0 bus.width in
    below_joined n (length ts) AndOf ts (below_literals n bus.start number 0 bus.width (omega (arith, within, few)))

abbrev mutual
  below_written : (n : ℕ) (inputs : List Decl) → length (input_names inputs) ≤ n → (t : terms.SpecTerm)
      → term_inputs_below n (written inputs t) ≡ true
  below_written n inputs few (terms.Const b) = refl
  below_written n inputs few (terms.Name name span) = below_named n (input_names inputs)
      (index_of (input_names inputs) name) name few refl
  below_written n inputs few (terms.Not' _ t) = below_written n inputs few t
  below_written n inputs few (terms.All' _ row) = below_joined n (length (written_row inputs row)) AndOf
      (written_row inputs row) (below_row n inputs few row)
  below_written n inputs few (terms.Any' _ row) = below_joined n (length (written_row inputs row)) OrOf
      (written_row inputs row) (below_row n inputs few row)
  below_written n inputs few (terms.Equal name span number at) = below_equal n inputs (bus_of inputs name) name number
      few refl

  below_row : (n : ℕ) (inputs : List Decl) → length (input_names inputs) ≤ n → {m : _} (row : Row_of-SpecTerm m)
      → all_below n (written_row inputs row) ≡ true
  below_row n inputs few end_of-SpecTerm = refl
  below_row n inputs few (more_of-SpecTerm t rest) = and_from _ _ (below_written n inputs few t)
      (below_row n inputs few rest)

ranged_action : (n : ℕ) (span : Span) (o : Option ℕ) (c : Counters)
    → inputs_below n (numbered (action_walk span o) c) ≡ true
ranged_action n span (Some k) c = refl
ranged_action n span None c = refl

ranged_node : (n : ℕ) (spec : Spec) (w : Part → Walk) → length (input_names spec.inputs) ≤ n
    → ((p : Part) (c : Counters) → inputs_below n (numbered (w p) c) ≡ true) → (s : Shape) (c : Counters)
    → inputs_below n (numbered (walked spec w s) c) ≡ true
ranged_node n spec w few below (parts.Empty span) c = refl
ranged_node n spec w few below (parts.Terminal span t) c = below_written n spec.inputs few t
ranged_node n spec w few below (parts.Action span name) c = ranged_action n span
    (index_of (action_names spec.actions) name) c
ranged_node n spec w few below (parts.Name span p) c = below p (sum_of c name_cost)
ranged_node n spec w few below (parts.Star span p) c = below p (sum_of c node_cost)
ranged_node n spec w few below (parts.Hold span t p) c = and_from _ _ (below_written n spec.inputs few t)
    (below p (sum_of c (hold_cost (written spec.inputs t))))
ranged_node n spec w few below (parts.Pair span Sequence p q) c =
    let d = sum_of c node_cost in and_from _ _ (below p d) (below q (after_visits d (visits (w p))))
ranged_node n spec w few below (parts.Pair span Choice p q) c =
    let d = sum_of c node_cost in and_from _ _ (below p d) (below q (after_visits d (visits (w p))))
ranged_node n spec w few below (parts.Scope span p q r) c =
    let d = sum_of c scope_cost in let e = after_visits d (visits (w p)) in
    and_from _ _ (below p d) (and_from _ _ (below q e) (below r (after_visits e (visits (w q)))))

-- every input in the tree is a declared one
pub ranged : (n : ℕ) (spec : Spec) (room : ℕ) → length (input_names spec.inputs) ≤ n → (p : Part) (c : Counters)
    → inputs_below n (numbered (walk spec room p) c) ≡ true
unfolding walk
ranged n spec zero few p c = refl
ranged n spec (suc room) few p c = ranged_node n spec (walk spec room) few (ranged n spec room few)
    (shape spec.prods p) c

acted_action : (n : ℕ) (names : List (List ℕ)) (name : List ℕ) (span : Span) (o : Option ℕ) (c : Counters)
    → length names ≤ n → index_of names name ≡ o → actions_below n (numbered (action_walk span o) c) ≡ true
acted_action n names name span (Some k) c few is = below_test k n
    (omega (arith, (number_within (λ w. pointwise ◌==◌ w name) 0 k names is).1))
acted_action n names name span None c few is = refl

acted_node : (n : ℕ) (spec : Spec) (w : Part → Walk) → length (action_names spec.actions) ≤ n
    → ((p : Part) (c : Counters) → actions_below n (numbered (w p) c) ≡ true) → (s : Shape) (c : Counters)
    → actions_below n (numbered (walked spec w s) c) ≡ true
acted_node n spec w few below (parts.Empty span) c = refl
acted_node n spec w few below (parts.Terminal span t) c = refl
acted_node n spec w few below (parts.Action span name) c = acted_action n (action_names spec.actions) name span
    (index_of (action_names spec.actions) name) c few refl
acted_node n spec w few below (parts.Name span p) c = below p (sum_of c name_cost)
acted_node n spec w few below (parts.Star span p) c = below p (sum_of c node_cost)
acted_node n spec w few below (parts.Hold span t p) c = below p (sum_of c (hold_cost (written spec.inputs t)))
acted_node n spec w few below (parts.Pair span Sequence p q) c =
    let d = sum_of c node_cost in and_from _ _ (below p d) (below q (after_visits d (visits (w p))))
acted_node n spec w few below (parts.Pair span Choice p q) c =
    let d = sum_of c node_cost in and_from _ _ (below p d) (below q (after_visits d (visits (w p))))
acted_node n spec w few below (parts.Scope span p q r) c =
    let d = sum_of c scope_cost in let e = after_visits d (visits (w p)) in
    and_from _ _ (below p d) (and_from _ _ (below q e) (below r (after_visits e (visits (w q)))))

-- every action in the tree is a declared one
pub acted : (n : ℕ) (spec : Spec) (room : ℕ) → length (action_names spec.actions) ≤ n → (p : Part) (c : Counters)
    → actions_below n (numbered (walk spec room p) c) ≡ true
unfolding walk
acted n spec zero few p c = refl
acted n spec (suc room) few p c = acted_node n spec (walk spec room) few (acted n spec room few) (shape spec.prods p) c
