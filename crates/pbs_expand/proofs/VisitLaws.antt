-- The outcome of a walk in the words of its visits.
use Rattle.std.proofs.Common.{◌≡◌, true, false, not, ◌&&◌, List, [], ◌∷◌, ◌++◌, Option, Some, None, refl, sym, ap, ◌∙◌}
use Rattle.std.specs.Prelude.{Ok, Err, if◌then◌else◌}
use Rattle.pbs_base.specs.declared.refusal.Span.{Span}
use Rattle.pbs_ast.specs.Trees.{Tree, spot_of}
use Rattle.pbs_ast.specs.Trees as trees
use Rattle.pbs_expand.specs.declared.build.Counters.{Counters}
use Rattle.pbs_expand.specs.declared.build.Stop.TheVariants as stops
use Rattle.pbs_expand.specs.Counting.{fits, sum_of, name_cost, node_cost, terminal_cost, hold_cost, scope_cost}
use Rattle.pbs_expand.specs.Walks.{Walk, Beyond, Empty, Terminal, Action, Name, Star, Hold, Pair, Scope}
use Rattle.pbs_expand.specs.inner.Outcomes.{Outcome, Grown, Over, outcome, entered, after_visit, after_part, with_tree}
use Rattle.pbs_expand.specs.inner.Outcomes.{as_grown}
use Rattle.pbs_expand.specs.Visits.{as_star, as_hold, as_pair, as_scope}
use Rattle.pbs_expand.specs.Visits.{Visit, visit, visits, after_visits, first_over, numbered}

abbrev pub outcome_of : Option Span → Tree → Counters → Outcome
outcome_of None t c = Grown t c
outcome_of (Some span) t c = Over span

abbrev pub or_else : Option Span → Option Span → Option Span
or_else None b = b
or_else (Some span) b = Some span

pub after_visits-append : (xs ys : List Visit) (c : Counters)
    → after_visits c (xs ++ ys) ≡ after_visits (after_visits c xs) ys
after_visits-append [] ys c = refl
after_visits-append (v ∷ xs) ys c = after_visits-append xs ys (sum_of c v.cost)

pub first_over-append : (xs ys : List Visit) (c : Counters)
    → first_over c (xs ++ ys) ≡ or_else (first_over c xs) (first_over (after_visits c xs) ys)
first_over-append [] ys c = refl
first_over-append (v ∷ xs) ys c =
    let more = first_over-append xs ys (sum_of c v.cost) in
    elim (not v.too_deep && fits c v.cost) as (λ b.
    (if b then first_over (sum_of c v.cost) (xs ++ ys) else Some v.span) ≡ or_else
    (if b then first_over (sum_of c v.cost) xs else Some v.span)
    (first_over (after_visits (sum_of c v.cost) xs) ys))
    [ true ↦ more | false ↦ refl ]

visit_is : (span : Span) (cost c : Counters) (next : Counters → Outcome) (rest : List Visit) (t : Tree) (d : Counters)
    → next (sum_of c cost) ≡ outcome_of (first_over (sum_of c cost) rest) t d
    → entered span cost c next ≡ outcome_of (first_over c (visit span cost ∷ rest)) t d
visit_is span cost c next rest t d then_is =
    elim (fits c cost) as (λ b. after_visit span (if b then Ok (sum_of c cost) else Err (stops.Over span)) next ≡
    outcome_of (if b then first_over (sum_of c cost) rest else Some span) t d)
    [ true ↦ then_is | false ↦ refl ]

with_tree_is : (o : Option Span) (t : Tree) (c : Counters) (node : Tree → Tree)
    → with_tree (outcome_of o t c) node ≡ outcome_of o (node t) c
with_tree_is None t c node = refl
with_tree_is (Some span) t c node = refl

part_is : (o p : Option Span) (t u : Tree) (c d : Counters) (next : Tree → Counters → Outcome)
    → next t c ≡ outcome_of p u d → after_part (outcome_of o t c) next ≡ outcome_of (or_else o p) u d
part_is None p t u c d next is = is
part_is (Some span) p t u c d next is = refl

-- a part, and then the rest of the visits
parts_is : (w : Walk) (ys : List Visit) (t u : Tree) (c d : Counters) (next : Tree → Counters → Outcome)
    → outcome w c ≡ outcome_of (first_over c (visits w)) t (after_visits c (visits w))
    → next t (after_visits c (visits w)) ≡ outcome_of (first_over (after_visits c (visits w)) ys) u d
    → after_part (outcome w c) next ≡ outcome_of (first_over c (visits w ++ ys)) u d
parts_is w ys t u c d next first second =
    ap (λ o. after_part o next) first ∙ part_is (first_over c (visits w)) (first_over (after_visits c (visits w)) ys)
    t u (after_visits c (visits w)) d next second
    ∙ ap (λ o. outcome_of o u d) (sym (first_over-append (visits w) ys c))

-- the last part
last_is : (w : Walk) (t : Tree) (c : Counters) (node : Tree → Tree)
    → outcome w c ≡ outcome_of (first_over c (visits w)) t (after_visits c (visits w))
    → with_tree (outcome w c) node ≡ outcome_of (first_over c (visits w)) (node t) (after_visits c (visits w))
last_is w t c node is = ap (λ o. with_tree o node) is
    ∙ with_tree_is (first_over c (visits w)) t (after_visits c (visits w)) node

-- the outcome is the first visit over a limit, or else the numbered tree
pub outcome_is : (w : Walk) (c : Counters) → outcome w c ≡ outcome_of (first_over c (visits w)) (numbered w c)
    (after_visits c (visits w))
outcome_is (Beyond span) c = refl
outcome_is (Empty span) c = visit_is span node_cost c (as_grown (trees.Empty (spot_of span c.nodes))) []
    (numbered (Empty span) c) (sum_of c node_cost) refl
outcome_is (Terminal span b) c = visit_is span (terminal_cost b) c
    (as_grown (trees.Terminal (spot_of span c.nodes) c.places b)) [] (numbered (Terminal span b) c)
    (sum_of c (terminal_cost b)) refl
outcome_is (Action span a) c = visit_is span node_cost c (as_grown (trees.Action (spot_of span c.nodes) a)) []
    (numbered (Action span a) c) (sum_of c node_cost) refl
outcome_is (Name span w) c = visit_is span name_cost c (outcome w) (visits w) (numbered (Name span w) c)
    (after_visits (sum_of c name_cost) (visits w)) (outcome_is w (sum_of c name_cost))
outcome_is (Star span w) c =
    visit_is span node_cost c (λ d. with_tree (outcome w d) (as_star span c.nodes)) (visits w)
    (numbered (Star span w) c) (after_visits (sum_of c node_cost) (visits w))
    (last_is w (numbered w (sum_of c node_cost)) (sum_of c node_cost) (as_star span c.nodes)
    (outcome_is w (sum_of c node_cost)))
outcome_is (Hold span b w) c =
    visit_is span (hold_cost b) c (λ d. with_tree (outcome w d) (as_hold span c.nodes b)) (visits w)
    (numbered (Hold span b w) c) (after_visits (sum_of c (hold_cost b)) (visits w))
    (last_is w (numbered w (sum_of c (hold_cost b))) (sum_of c (hold_cost b)) (as_hold span c.nodes b)
    (outcome_is w (sum_of c (hold_cost b))))
outcome_is (Pair span by v w) c =
    let inside = sum_of c node_cost in let after = after_visits inside (visits v) in
    let t = numbered v inside in
    let ends : after_visits inside (visits v ++ visits w) ≡ after_visits after (visits w) = after_visits-append
    (visits v) (visits w) inside in
    visit_is span node_cost c (λ d. after_part (outcome v d)
    (λ t e. with_tree (outcome w e) (as_pair span c.nodes by t))) (visits v ++ visits w)
    (numbered (Pair span by v w) c) (after_visits after (visits w))
    (parts_is v (visits w) t (numbered (Pair span by v w) c) inside (after_visits after (visits w))
    (λ t e. with_tree (outcome w e) (as_pair span c.nodes by t)) (outcome_is v inside)
    (last_is w (numbered w after) after (as_pair span c.nodes by t) (outcome_is w after)))
    ∙ ap (outcome_of (first_over c (visits (Pair span by v w))) (numbered (Pair span by v w) c)) (sym ends)
outcome_is (Scope span v w x) c =
    let inside = sum_of c scope_cost in let after = after_visits inside (visits v) in let later = after_visits after
    (visits w) in
    let t = numbered v inside in let u = numbered w after in
    let all = numbered (Scope span v w x) c in let last = after_visits later (visits x) in
    let ends : after_visits inside (visits v ++ (visits w ++ visits x)) ≡ last = after_visits-append (visits v)
    (visits w ++ visits x) inside ∙ after_visits-append (visits w) (visits x) after in
    visit_is span scope_cost c (λ d. after_part (outcome v d)
    (λ t e. after_part (outcome w e) (λ u f. with_tree (outcome x f) (as_scope span c.nodes c.scopes t u))))
    (visits v ++ (visits w ++ visits x)) all last
    (parts_is v (visits w ++ visits x) t all inside last
    (λ t e. after_part (outcome w e) (λ u f. with_tree (outcome x f) (as_scope span c.nodes c.scopes t u)))
    (outcome_is v inside)
    (parts_is w (visits x) u all after last (λ u f. with_tree (outcome x f) (as_scope span c.nodes c.scopes t u))
    (outcome_is w after)
    (last_is x (numbered x later) later (as_scope span c.nodes c.scopes t u) (outcome_is x later))))
    ∙ ap (outcome_of (first_over c (visits (Scope span v w x))) all) (sym ends)
