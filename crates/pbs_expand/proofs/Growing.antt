-- The steps of a walk.
use Rattle.std.proofs.Common.{◌≡◌, ◌<◌, ℕ, zero, suc, ◌-◌, ◌+◌, refl, sym, ap, subst, ◌∙◌, arith}
use Rattle.std.specs.Prelude.{Result, Ok, Err}
use Rattle.pbs_base.specs.declared.refusal.Span.{Span}
use Rattle.pbs_ast.specs.Trees.{Tree}
use Rattle.pbs_ast.specs.declared.syntax.Spec.{Spec}
use Rattle.pbs_expand.specs.declared.build.Counters.{Counters}
use Rattle.pbs_expand.specs.declared.build.Grown as built
use Rattle.pbs_expand.specs.declared.build.Stop.{Stop}
use Rattle.pbs_expand.specs.declared.build.Stop.TheVariants as stops
use Rattle.bool_terms.specs.Terms.{Term, term_of}
use Rattle.pbs_expand.specs.declared.terms.Written.{Written}
use Rattle.pbs_expand.specs.inner.WrittenTerms.{IsWritten}
use Rattle.pbs_expand.specs.declared.parts.Pairing.{Pairing}
use Rattle.pbs_expand.specs.Counting.{node_cost, hold_cost, scope_cost}
use Rattle.pbs_expand.specs.inner.Outcomes.{enter}
use Rattle.pbs_expand.specs.inner.Outcomes.{Outcome, Grown, Over, IsOutcome, outcome, entered, after_visit, after_part}
use Rattle.pbs_expand.specs.inner.Outcomes.{with_tree}
use Rattle.pbs_expand.specs.Visits.{as_star, as_hold, as_pair, as_scope}
use Rattle.pbs_expand.specs.Parts.{Part, Shape, shape, span_of}
use Rattle.pbs_expand.specs.Walks.{Walk, Beyond, Star, Hold, Pair, Scope, walk, walked}

walk_step : (spec : Spec) (room : ℕ) (p : Part) → 0 < room
    → walk spec room p ≡ walked spec (walk spec (room - 1)) (shape spec.prods p)
unfolding walk
walk_step spec zero p some = absurd (omega (arith, some))
walk_step spec (suc room) p some =
    let e : suc room - 1 ≡ room = omega arith in ap (λ k. walked spec (walk spec k) (shape spec.prods p)) (sym e)

walk_zero : (spec : Spec) (room : ℕ) (p : Part) → room ≡ 0 → walk spec room p ≡ Beyond (span_of p)
unfolding walk
walk_zero spec zero p none = refl
walk_zero spec (suc room) p none = absurd (omega (arith, none))

-- nothing is left of the levels
pub too_deep : (spec : Spec) (room : ℕ) (p : Part) (before : Counters) (span : Span) → room ≡ 0 → span ≡ span_of p
    → IsOutcome (outcome (walk spec room p) before) (Err (stops.Over span))
too_deep spec room p before span none is = ap (λ w. outcome w before) (walk_zero spec room p none) ∙ ap Over (sym is)

-- the outcome of a part is that of its node with its parts
pub stepped : (spec : Spec) (room : ℕ) (p : Part) (s : Shape) (before : Counters) (r : Result built.Grown Stop)
    → 0 < room → s ≡ shape spec.prods p → IsOutcome (outcome (walked spec (walk spec (room - 1)) s) before) r
    → IsOutcome (outcome (walk spec room p) before) r
stepped spec room p s before r some is grown =
    let P : Walk → Type 0 = λ w. IsOutcome (outcome w before) r in
    subst P (ap (walked spec (walk spec (room - 1))) is ∙ sym (walk_step spec room p some)) grown

-- a visit that passes no limit
pub visited : (span : Span) (cost before inside : Counters) (next : Counters → Outcome) (r : Result built.Grown Stop)
    → Ok inside ≡ enter span cost before → IsOutcome (next inside) r → IsOutcome (entered span cost before next) r
visited span cost before inside next r is grown =
    let P : Result Counters Stop → Type 0 = λ e. IsOutcome (after_visit span e next) r in subst P is grown

-- a part that passes no limit
pub part_grown : (o : Outcome) (t : Tree) (c : Counters) (next : Tree → Counters
    → Outcome) (r : Result built.Grown Stop) → o ≡ Grown t c → IsOutcome (next t c) r → IsOutcome (after_part o next) r
part_grown o t c next r is grown =
    let P : Outcome → Type 0 = λ o'. IsOutcome (after_part o' next) r in subst P (sym is) grown

-- what a node's function promises for every outcome of its last part
abbrev pub Wraps : (Tree → Tree) → Result built.Grown Stop → Result built.Grown Stop → Type 0
Wraps node part r = (o : Outcome) → IsOutcome o part → IsOutcome (with_tree o node) r

pub star_grown : (w : Walk) (span : Span) (before inside : Counters) (body r : Result built.Grown Stop)
    → Ok inside ≡ enter span node_cost before → IsOutcome (outcome w inside) body
    → Wraps (as_star span before.nodes) body r → IsOutcome (outcome (Star span w) before) r
star_grown w span before inside body r is grown wraps =
    visited span node_cost before inside (λ d. with_tree (outcome w d) (as_star span before.nodes)) r is
    (wraps (outcome w inside) grown)

pub hold_grown : (w : Walk) (b : Term) (span : Span) (before inside : Counters) (body r : Result built.Grown Stop)
    → Ok inside ≡ enter span (hold_cost b) before → IsOutcome (outcome w inside) body
    → Wraps (as_hold span before.nodes b) body r → IsOutcome (outcome (Hold span b w) before) r
hold_grown w b span before inside body r is grown wraps =
    visited span (hold_cost b) before inside (λ d. with_tree (outcome w d) (as_hold span before.nodes b)) r is
    (wraps (outcome w inside) grown)

pub pair_grown : (v w : Walk) (by : Pairing) (span : Span) (before inside after : Counters) (left : Tree)
    (right r : Result built.Grown Stop) → Ok inside ≡ enter span node_cost before
    → outcome v inside ≡ Grown left after → IsOutcome (outcome w after) right
    → Wraps (as_pair span before.nodes by left) right r → IsOutcome (outcome (Pair span by v w) before) r
pair_grown v w by span before inside after left right r is first second wraps =
    visited span node_cost before inside (λ d. after_part (outcome v d)
    (λ t e. with_tree (outcome w e) (as_pair span before.nodes by t))) r is
    (part_grown (outcome v inside) left after (λ t e. with_tree (outcome w e) (as_pair span before.nodes by t)) r
    first (wraps (outcome w after) second))

pub scope_grown : (v w x : Walk) (span : Span) (before inside after later : Counters) (body trap : Tree)
    (last r : Result built.Grown Stop) → Ok inside ≡ enter span scope_cost before
    → outcome v inside ≡ Grown body after → outcome w after ≡ Grown trap later → IsOutcome (outcome x later) last
    → Wraps (as_scope span before.nodes before.scopes body trap) last r
    → IsOutcome (outcome (Scope span v w x) before) r
scope_grown v w x span before inside after later body trap last r is first second third wraps =
    visited span scope_cost before inside (λ d. after_part (outcome v d)
    (λ t e. after_part (outcome w e) (λ u f. with_tree (outcome x f)
    (as_scope span before.nodes before.scopes t u)))) r is
    (part_grown (outcome v inside) body after (λ t e. after_part (outcome w e)
    (λ u f. with_tree (outcome x f) (as_scope span before.nodes before.scopes t u))) r first
    (part_grown (outcome w after) trap later (λ u f. with_tree (outcome x f)
    (as_scope span before.nodes before.scopes body u)) r second (wraps (outcome x later) third)))

-- a hold whose term the code has written
pub held_grown : (w : Walk) (b : Term) (c : Written) (room : ℕ) (span : Span) (before inside : Counters)
    (body r : Result built.Grown Stop) → IsWritten b room c
    → Ok inside ≡ enter span (record { counts = 1 + c.nodes; nodes = 1; places = 0; scopes = 0 }) before
    → IsOutcome (outcome w inside) body → Wraps (as_hold span before.nodes (term_of c.term)) body r
    → IsOutcome (outcome (Hold span b w) before) r
held_grown w b c room span before inside body r written is grown wraps =
    let costs : Ok inside ≡ enter span (hold_cost b) before = is
    ∙ ap (λ n. enter span (record { counts = 1 + n; nodes = 1; places = 0; scopes = 0 }) before) written.nodes in
    let P : Term → Type 0 = λ x. Wraps (as_hold span before.nodes x) body r in
    hold_grown w b span before inside body r costs grown (subst P written.term wraps)
