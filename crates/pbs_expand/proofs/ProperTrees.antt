-- Rules 9 and 10 hold of the tree where they hold of the specification.
use Rattle.std.proofs.Common.{◌≡◌, ℕ, zero, suc, Bool, true, false, not, ◌&&◌, ◌||◌, ◌⊎◌, inl, inr, Option, Some, None}
use Rattle.std.proofs.Common.{refl}
use Rattle.std.proofs.lemmas.Bool.{and_parts, and_from, or_left, or_right}
use Rattle.pbs_base.specs.declared.refusal.Span.{Span}
use Rattle.pbs_ast.specs.Trees.{Tree, nullable, has_terminal, is_plain}
use Rattle.pbs_ast.specs.Sound.{IsProper, stars_move, scopes_right}
use Rattle.pbs_ast.specs.declared.syntax.Spec.{Spec}
use Rattle.pbs_names.specs.Naming.{index_of, action_names}
use Rattle.pbs_expand.specs.declared.parts.Pairing.{Pairing}
use Rattle.pbs_expand.specs.declared.parts.Pairing.TheVariants.{Sequence, Choice}
use Rattle.pbs_expand.specs.declared.build.Counters.{Counters}
use Rattle.pbs_expand.specs.Counting.{sum_of, name_cost, node_cost, hold_cost, scope_cost}
use Rattle.pbs_expand.specs.Parts.{Part, Shape, Whole, Empty, Terminal, Action, Name, Star, Hold, Pair, Scope, shape}
use Rattle.pbs_expand.specs.Walks.{Walk, walk, walked, action_walk, complete}
use Rattle.pbs_expand.specs.Written.{written}
use Rattle.pbs_expand.specs.Visits.{visits, after_visits, numbered}
use Rattle.pbs_expand.specs.Expanded.{nothing_yet, main_walk, expanded, over_limit}
use Rattle.pbs_expand.specs.Ready.{IsReady}
use Rattle.pbs_names.specs.Forms.{OfMain}
use Rattle.pbs_expand.proofs.PartWords.{PartMay, ShapeMay, PartBusy, ShapeBusy, PartHas, ShapeHas, PartStands}
use Rattle.pbs_expand.proofs.PartWords.{ShapeIsRight}
use Rattle.pbs_expand.proofs.PartForms.{may_part, busy_part}
use Rattle.pbs_expand.proofs.PartRules.{has_part, right_part}
use Rattle.pbs_expand.proofs.Counted.{none_over}

either_true : (a b : Bool) → (a || b) ≡ true → (a ≡ true) ⊎ (b ≡ true)
either_true true b h = inl refl
either_true false b h = inr h

either_false : (a b : Bool) → (a && b) ≡ false → (a ≡ false) ⊎ (b ≡ false)
either_false true b h = inr h
either_false false b h = inl refl

not_true : (b : Bool) → (b ≡ true → ⊥) → not b ≡ true
not_true true h = absurd (h refl)
not_true false h = refl

true_unless : (b : Bool) → (b ≡ false → ⊥) → b ≡ true
true_unless true h = refl
true_unless false h = absurd (h refl)

true_twice : (b : Bool) → ((b ≡ true → ⊥) → ⊥) → b ≡ true
true_twice true h = refl
true_twice false h = absurd (h (λ e. cc))

-- ---- what may be empty in the tree may be empty as it is written
empty_node : (spec : Spec) (w : Part → Walk) → ((p : Part) (c : Counters) → complete (w p) ≡ true → nullable
    (numbered (w p) c) ≡ true → PartMay spec.prods p)
    → (s : Shape) (c : Counters) → complete (walked spec w s) ≡ true → nullable (numbered (walked spec w s) c) ≡ true
    → ShapeMay spec.prods s
empty_node spec w part (Empty span) c whole h = tt
empty_node spec w part (Terminal span t) c whole h = cc
empty_node spec w part (Action span name) c whole h = tt
empty_node spec w part (Name span p) c whole h = part p (sum_of c name_cost) whole h
empty_node spec w part (Star span p) c whole h = tt
empty_node spec w part (Hold span t p) c whole h = part p (sum_of c (hold_cost (written spec.inputs t))) whole h
empty_node spec w part (Pair span Sequence p q) c whole h =
    let d = sum_of c node_cost in let e = after_visits d (visits (w p)) in let all = and_parts (complete (w p))
    (complete (w q)) whole in
    let two = and_parts (nullable (numbered (w p) d)) (nullable (numbered (w q) e)) h in
    (part p d all.0 two.0, part q e all.1 two.1)
empty_node spec w part (Pair span Choice p q) c whole h =
    let d = sum_of c node_cost in let e = after_visits d (visits (w p)) in let all = and_parts (complete (w p))
    (complete (w q)) whole in
    elim (either_true (nullable (numbered (w p) d)) (nullable (numbered (w q) e)) h)
    [ inl l ↦ inl (part p d all.0 l) | inr r ↦ inr (part q e all.1 r) ]
empty_node spec w part (Scope span p q r) c whole h =
    part p (sum_of c scope_cost) (and_parts (complete (w p)) (complete (w q) && complete (w r)) whole).0 h

may_be_empty : (spec : Spec) (room : ℕ) (p : Part) (c : Counters) → complete (walk spec room p) ≡ true
    → nullable (numbered (walk spec room p) c) ≡ true → PartMay spec.prods p
unfolding walk
may_be_empty spec zero p c whole h = cc
may_be_empty spec (suc room) p c whole h = may_part spec.prods p
    (empty_node spec (walk spec room) (may_be_empty spec room) (shape spec.prods p) c whole h)

-- ---- what isn't plain in the tree has an action or a scope as it is written
busy_node : (spec : Spec) (w : Part → Walk) → ((p : Part) (c : Counters) → complete (w p) ≡ true → is_plain
    (numbered (w p) c) ≡ false → PartBusy spec.prods p)
    → (s : Shape) (c : Counters) → complete (walked spec w s) ≡ true → is_plain (numbered (walked spec w s) c) ≡ false
    → ShapeBusy spec.prods s
busy_node spec w part (Empty span) c whole h = cc
busy_node spec w part (Terminal span t) c whole h = cc
busy_node spec w part (Action span name) c whole h = tt
busy_node spec w part (Name span p) c whole h = part p (sum_of c name_cost) whole h
busy_node spec w part (Star span p) c whole h = part p (sum_of c node_cost) whole h
busy_node spec w part (Hold span t p) c whole h = part p (sum_of c (hold_cost (written spec.inputs t))) whole h
busy_node spec w part (Pair span Sequence p q) c whole h =
    let d = sum_of c node_cost in let e = after_visits d (visits (w p)) in let all = and_parts (complete (w p))
    (complete (w q)) whole in
    elim (either_false (is_plain (numbered (w p) d)) (is_plain (numbered (w q) e)) h)
    [ inl l ↦ inl (part p d all.0 l) | inr r ↦ inr (part q e all.1 r) ]
busy_node spec w part (Pair span Choice p q) c whole h =
    let d = sum_of c node_cost in let e = after_visits d (visits (w p)) in let all = and_parts (complete (w p))
    (complete (w q)) whole in
    elim (either_false (is_plain (numbered (w p) d)) (is_plain (numbered (w q) e)) h)
    [ inl l ↦ inl (part p d all.0 l) | inr r ↦ inr (part q e all.1 r) ]
busy_node spec w part (Scope span p q r) c whole h = tt

busy : (spec : Spec) (room : ℕ) (p : Part) (c : Counters) → complete (walk spec room p) ≡ true
    → is_plain (numbered (walk spec room p) c) ≡ false → PartBusy spec.prods p
unfolding walk
busy spec zero p c whole h = cc
busy spec (suc room) p c whole h = busy_part spec.prods p
    (busy_node spec (walk spec room) (busy spec room) (shape spec.prods p) c whole h)

-- ---- a terminal that is written stands in the tree
terminal_pair : (spec : Spec) (w : Part → Walk) (span : Span) (by : Pairing) (p q : Part) (c : Counters)
    → ((has_terminal (numbered (w p) (sum_of c node_cost)) ≡ true) ⊎
    (has_terminal (numbered (w q) (after_visits (sum_of c node_cost) (visits (w p)))) ≡ true))
    → has_terminal (numbered (walked spec w (Pair span by p q)) c) ≡ true
terminal_pair spec w span Sequence p q c (inl h) = or_left _ _ h
terminal_pair spec w span Sequence p q c (inr h) = or_right _ _ h
terminal_pair spec w span Choice p q c (inl h) = or_left _ _ h
terminal_pair spec w span Choice p q c (inr h) = or_right _ _ h

terminal_node : (spec : Spec) (w : Part → Walk) → ((p : Part) (c : Counters) → complete (w p) ≡ true → PartHas
    spec.prods p → has_terminal (numbered (w p) c) ≡ true)
    → (s : Shape) (c : Counters) → complete (walked spec w s) ≡ true → ShapeHas spec.prods s
    → has_terminal (numbered (walked spec w s) c) ≡ true
terminal_node spec w part (Empty span) c whole h = absurd h
terminal_node spec w part (Terminal span t) c whole h = refl
terminal_node spec w part (Action span name) c whole h = absurd h
terminal_node spec w part (Name span p) c whole h = part p (sum_of c name_cost) whole h
terminal_node spec w part (Star span p) c whole h = part p (sum_of c node_cost) whole h
terminal_node spec w part (Hold span t p) c whole h = part p (sum_of c (hold_cost (written spec.inputs t))) whole h
terminal_node spec w part (Pair span by p q) c whole (inl h) =
    terminal_pair spec w span by p q c (inl (part p (sum_of c node_cost) (and_parts (complete (w p)) (complete (w q))
    whole).0 h))
terminal_node spec w part (Pair span by p q) c whole (inr h) =
    terminal_pair spec w span by p q c (inr (part q (after_visits (sum_of c node_cost) (visits (w p))) (and_parts
    (complete (w p)) (complete (w q)) whole).1 h))
terminal_node spec w part (Scope span p q r) c whole (inl h) =
    or_left _ _ (part p (sum_of c scope_cost) (and_parts (complete (w p)) (complete (w q) && complete (w r))
    whole).0 h)
terminal_node spec w part (Scope span p q r) c whole (inr (inl h)) =
    let rest = and_parts (complete (w q)) (complete (w r))
    (and_parts (complete (w p)) (complete (w q) && complete (w r)) whole).1 in
    or_right (has_terminal (numbered (w p) (sum_of c scope_cost))) _
    (or_left _ _ (part q (after_visits (sum_of c scope_cost) (visits (w p))) rest.0 h))
terminal_node spec w part (Scope span p q r) c whole (inr (inr h)) =
    let rest = and_parts (complete (w q)) (complete (w r))
    (and_parts (complete (w p)) (complete (w q) && complete (w r)) whole).1 in
    or_right (has_terminal (numbered (w p) (sum_of c scope_cost))) _
    (or_right (has_terminal (numbered (w q) (after_visits (sum_of c scope_cost) (visits (w p))))) _
    (part r (after_visits (after_visits (sum_of c scope_cost) (visits (w p))) (visits (w q))) rest.1 h))

terminal : (spec : Spec) (room : ℕ) (p : Part) (c : Counters) → complete (walk spec room p) ≡ true
    → PartHas spec.prods p → has_terminal (numbered (walk spec room p) c) ≡ true
unfolding walk
terminal spec zero p c whole h = cc
terminal spec (suc room) p c whole h = terminal_node spec (walk spec room) (terminal spec room) (shape spec.prods p) c
    whole (has_part spec.prods p h)

-- ---- no star's body may be empty, and each scope is right
pub record IsFine (t : Tree) : Type 0 where
  pub stars : stars_move t ≡ true
  pub scopes : scopes_right t ≡ true

fine_action : (span : Span) (o : Option ℕ) (c : Counters) → IsFine (numbered (action_walk span o) c)
fine_action span (Some n) c = record { stars = refl; scopes = refl }
fine_action span None c = record { stars = refl; scopes = refl }

fine_pair : (spec : Spec) (w : Part → Walk) (span : Span) (by : Pairing) (p q : Part) (c : Counters)
    → IsFine (numbered (w p) (sum_of c node_cost))
    → IsFine (numbered (w q) (after_visits (sum_of c node_cost) (visits (w p))))
    → IsFine (numbered (walked spec w (Pair span by p q)) c)
fine_pair spec w span Sequence p q c a b = record {
  stars = and_from _ _ a.stars b.stars;
  scopes = and_from _ _
      a.scopes b.scopes;
}
fine_pair spec w span Choice p q c a b = record {
  stars = and_from _ _ a.stars b.stars;
  scopes = and_from _ _
      a.scopes b.scopes;
}

fine_node : (spec : Spec) (room : ℕ) (s : Shape) →
    ((q : Part) → PartStands spec q → (c : Counters) → complete (walk spec room q) ≡ true
    → IsFine (numbered (walk spec room q) c))
    → ShapeIsRight spec s → (c : Counters) → complete (walked spec (walk spec room) s) ≡ true
    → IsFine (numbered (walked spec (walk spec room) s) c)
fine_node spec room (Empty span) part right c whole = record { stars = refl; scopes = refl }
fine_node spec room (Terminal span t) part right c whole = record { stars = refl; scopes = refl }
fine_node spec room (Action span name) part right c whole = fine_action span
    (index_of (action_names spec.actions) name) c
fine_node spec room (Name span p) part right c whole = part p right (sum_of c name_cost) whole
fine_node spec room (Star span p) part right c whole =
    let d = sum_of c node_cost in let inner = part p right.0 d whole in
    record {
      stars = and_from _ _ (not_true _ (λ h. right.1 (may_be_empty spec room p d whole h))) inner.stars;
      scopes = inner.scopes;
    }
fine_node spec room (Hold span t p) part right c whole =
    let inner = part p right (sum_of c (hold_cost (written spec.inputs t))) whole in record
    { stars = inner.stars; scopes = inner.scopes }
fine_node spec room (Pair span by p q) part right c whole =
    let w = walk spec room in let d = sum_of c node_cost in let all = and_parts (complete (w p)) (complete (w q))
    whole in
    fine_pair spec w span by p q c (part p right.0 d all.0) (part q right.1 (after_visits d (visits (w p))) all.1)
fine_node spec room (Scope span p q r) part right c whole =
    let w = walk spec room in let d = sum_of c scope_cost in let e = after_visits d (visits (w p)) in let f =
    after_visits e (visits (w q)) in
    let all = and_parts (complete (w p)) (complete (w q) && complete (w r)) whole in let rest = and_parts
    (complete (w q)) (complete (w r)) all.1 in
    let a = part p right.body d all.0 in let b = part q right.trap e rest.0 in let g = part r right.after f rest.1 in
    record {
      stars = and_from _ _ (and_from _ _ a.stars b.stars) g.stars;
      scopes = and_from _ _ (true_twice _ (λ no. right.has (λ h. no (terminal spec room p d all.0 h))))
          (and_from _ _ (not_true _ (λ h. right.moves (may_be_empty spec room q e rest.0 h)))
          (and_from _ _ (true_unless _ (λ h. right.plain (busy spec room q e rest.0 h)))
          (and_from _ _ a.scopes g.scopes)));
    }

fine : (spec : Spec) → IsReady spec → (room : ℕ) (p : Part) → PartStands spec p → (c : Counters)
    → complete (walk spec room p) ≡ true → IsFine (numbered (walk spec room p) c)
unfolding walk
fine spec ready zero p stands c whole = cc
fine spec ready (suc room) p stands c whole = fine_node spec room (shape spec.prods p) (fine spec ready room)
    (right_part spec ready p stands) c whole

-- rules 9 and 10 of the tree
pub proper : (spec : Spec) → IsReady spec → over_limit spec ≡ None → IsProper (expanded spec)
proper spec ready h =
    let good = fine spec ready 256 (Whole spec.main) OfMain nothing_yet (none_over (main_walk spec) nothing_yet h) in
    record { stars = good.stars; scopes = good.scopes }
