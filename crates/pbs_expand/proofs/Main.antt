-- What the outcome of main's walk says of the tree.
use Rattle.std.proofs.Common.{◌≡◌, ◌≤◌, Option, Some, None, length, refl, sym, ap, subst, ◌∙◌, arith}
use Rattle.pbs_base.specs.declared.refusal.Span.{Span}
use Rattle.pbs_ast.specs.Trees.{Tree}
use Rattle.pbs_ast.specs.Sound.{IsCounted, first_wide}
use Rattle.std.proofs.lemmas.List.{length-map}
use Rattle.pbs_ast.specs.declared.syntax.Decl.{Decl}
use Rattle.pbs_ast.specs.declared.syntax.Spec.{Spec}
use Rattle.pbs_expand.specs.Ready.{NamesDeclared}
use Rattle.pbs_expand.specs.declared.build.Counters.{Counters}
use Rattle.pbs_names.specs.Naming.{input_names}
use Rattle.pbs_expand.specs.inner.Outcomes.{IsWithin}
use Rattle.pbs_expand.specs.Parts.{Whole}
use Rattle.pbs_expand.specs.inner.Outcomes.{Grown, Over, outcome}
use Rattle.pbs_expand.specs.Visits.{visits, after_visits, first_over, numbered}
use Rattle.pbs_expand.specs.Expanded.{nothing_yet, main_walk, expanded, over_limit, over_width, refused, refusal}
use Rattle.pbs_expand.specs.Expanded.{first_refusal}
use Rattle.pbs_expand.specs.Wide.{first_too_wide}
use Rattle.pbs_expand.proofs.WideLemmas.{wide}
use Rattle.pbs_expand.proofs.VisitLaws.{outcome_is, outcome_of}
use Rattle.pbs_expand.proofs.Limits.{adds, in_order}
use Rattle.pbs_expand.proofs.Counted.{none_over, shallow, ranged, acted}

grown_is : (o : Option Span) (t u : Tree) (c d : Counters) → Grown u d ≡ outcome_of o t c
    → (o ≡ None) × (t ≡ u) × (c ≡ d)
grown_is None t u c d h = (refl, cc, cc)
grown_is (Some span) t u c d h = cc

over_is : (o : Option Span) (t : Tree) (c : Counters) (span : Span) → Over span ≡ outcome_of o t c → o ≡ Some span
over_is None t c span h = cc
over_is (Some other) t c span h = cc

-- what a walk that passes no limit gives
pub record Makes (spec : Spec) (t : Tree) : Type 0 where
  pub no_limit : over_limit spec ≡ None
  pub is : t ≡ expanded spec
  pub counted : IsCounted t
  pub named : NamesDeclared spec t

pub makes : (spec : Spec) (t : Tree) (d : Counters) → length (input_names spec.inputs) ≤ 64
    → outcome (main_walk spec) nothing_yet ≡ Grown t d → IsWithin d → Makes spec t
makes spec t d few grown within =
    let w = main_walk spec in
    let all = grown_is (first_over nothing_yet (visits w)) (numbered w nothing_yet) t
    (after_visits nothing_yet (visits w)) d (sym grown ∙ outcome_is w nothing_yet) in
    let whole = none_over w nothing_yet all.0 in
    let a = adds w nothing_yet whole in
    let n = in_order w nothing_yet whole in
    let counts : (after_visits nothing_yet (visits w)).counts ≡ d.counts = ap (λ x. x.counts) all.2 in
    let places : (after_visits nothing_yet (visits w)).places ≡ d.places = ap (λ x. x.places) all.2 in
    let P : Tree → Type 0 = IsCounted in
    let counted : IsCounted (numbered w nothing_yet) = record {
      inputs = ranged 64 spec 256 few (Whole spec.main) nothing_yet;
      nodes = omega (arith, a.counts, counts, within.counts);
      depth = shallow spec 256 (Whole spec.main) nothing_yet whole;
      places = omega (arith, a.places, places, within.places);
      nodes_numbered = n.nodes;
      places_numbered = n.places;
      scopes_numbered = n.scopes;
    } in
    let named : NamesDeclared spec (numbered w nothing_yet) = record {
      inputs = ranged (length (input_names spec.inputs)) spec 256 (omega arith) (Whole spec.main) nothing_yet;
      actions = acted (length spec.actions) spec 256 (omega (arith, length-map spec.actions (λ (d : Decl). d.name)))
          (Whole spec.main) nothing_yet;
    } in
    let Q : Tree → Type 0 = NamesDeclared spec in
    record { no_limit = all.0; is = sym all.1; counted = subst P all.1 counted; named = subst Q all.1 named }

pub stops : (spec : Spec) (span : Span) → outcome (main_walk spec) nothing_yet ≡ Over span
    → refusal spec ≡ Some (refused 12 span)
stops spec span over =
    let w = main_walk spec in
    let h = over_is (first_over nothing_yet (visits w)) (numbered w nothing_yet) (after_visits nothing_yet (visits w))
    span (sym over ∙ outcome_is w nothing_yet) in
    ap (λ o. first_refusal o (over_width spec)) h

-- what the first wide place says of rule 13
narrow_is : (spec : Spec) (t : Tree) → t ≡ expanded spec → over_limit spec ≡ None → IsCounted t
    → first_refusal None (first_wide 0 t) ≡ refusal spec
narrow_is spec t is no_limit counted =
    ap (first_refusal None) (wide t counted.inputs ∙ ap first_too_wide is)
    ∙ ap (λ o. first_refusal o (over_width spec)) (sym no_limit)

pub widens : (spec : Spec) (t : Tree) (o : Option Span) (span : Span) → t ≡ expanded spec → over_limit spec ≡ None
    → IsCounted t → o ≡ first_wide 0 t → o ≡ Some span → refusal spec ≡ Some (refused 13 span)
widens spec t o span is no_limit counted first found =
    sym (narrow_is spec t is no_limit counted) ∙ ap (first_refusal None) (sym first ∙ found)

pub passes : (spec : Spec) (t : Tree) (o : Option Span) → t ≡ expanded spec → over_limit spec ≡ None → IsCounted t
    → o ≡ first_wide 0 t → o ≡ None → refusal spec ≡ None
passes spec t o is no_limit counted first none =
    sym (narrow_is spec t is no_limit counted) ∙ ap (first_refusal None) (sym first ∙ none)
