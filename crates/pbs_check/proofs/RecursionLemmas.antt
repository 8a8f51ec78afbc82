-- Where no name is declared twice and every production is known, every expression is.
use Rattle.std.proofs.Common.{◌≡◌, inl, inr, ℕ, ◌==◌, Bool, true, false, ◌++◌, List, [], ◌∷◌, Option, Some, refl, sym}
use Rattle.std.proofs.Common.{ap, subst}
use Rattle.std.specs.Prelude.{Contains, if◌then◌else◌}
use Rattle.std.specs.Cmp.Lexicographic.{pointwise, same_text}
use Rattle.std.proofs.lemmas.Cmp.{nat_list_eq_equiv}
use Rattle.pbs_ast.proofs.Items.{first_item, later_item, no_item, item_cases}
use Rattle.pbs_base.specs.declared.refusal.Span.{Span}
use Rattle.pbs_ast.specs.declared.syntax.Expr.{Expr}
use Rattle.pbs_ast.specs.declared.syntax.Prod.{Prod}
use Rattle.pbs_ast.specs.declared.syntax.Spec.{Spec}
use Rattle.pbs_names.specs.Naming.{body_of}
use Rattle.pbs_names.specs.Forms.{Stands, OfMain, OfProd, OfPart}
use Rattle.pbs_check.specs.declared.facts.Facts.{Facts}
use Rattle.pbs_check.specs.declared.uses.Tables.{Tables}
use Rattle.pbs_check.specs.inner.Facts.{known_of}
use Rattle.pbs_check.specs.Recursion.{UsesAt, Reaches, Arrived, ByUse}
use Rattle.pbs_check.specs.inner.Truth.{AreFirst, Settles, IsKnown, AreKnown}
use Rattle.pbs_check.specs.declared.named.Named.{Named}
use Rattle.pbs_check.specs.Declaring.{named, declared_inputs, declared_actions, declared_levels, declared_prods, Twice}
use Rattle.pbs_check.specs.Declaring.{First, Further, Rule5, DeclaredTwice}
use Rattle.pbs_check.specs.Least.{later_span}
use Rattle.pbs_check.proofs.FactTruth.{facts_are}
use Rattle.pbs_check.proofs.SettleLemmas.{Known, parts_known}

pub reach_on : {prods : List Prod} {to from next : List ℕ} {body : Expr} {span : Span} → Reaches prods to from
    → body_of prods to ≡ Some body → UsesAt body next span → Reaches prods next from
reach_on Arrived is uses = ByUse is uses Arrived
reach_on (ByUse here used more) is uses = ByUse here used (reach_on more is uses)

-- every expression of the specification is known
stand_known : (spec : Spec) (known : List ℕ → Option Facts) → AreKnown spec known → (e : Expr) → Stands spec e
    → Known known e
stand_known spec known all e OfMain = all.main
stand_known spec known all e (OfProd {p = p} here) = all.bodies p here
stand_known spec known all e (OfPart {e = d} stands part) = let k = stand_known spec known all d stands in
    parts_known known d.kind k.0 k.1 e part

pub is_known : (spec : Spec) (tables : Tables) → Settles spec.prods (known_of tables.known)
    → AreKnown spec (known_of tables.known) → IsKnown spec tables
is_known spec tables settles all = record {
  facts = λ e stands. (stand_known spec (known_of tables.known) all e stands).0;
  known = λ e stands. (stand_known spec (known_of tables.known) all e stands).1;
  true_of = λ e stands. let k = stand_known spec (known_of tables.known) all e stands in
      facts_are spec.prods (known_of tables.known) settles.knows e k.0 k.1;
}

-- where no name is declared twice, each production is the first of its name
twice_right : (xs ys : List Named) (s : Span) → Twice ys s → Twice (xs ++ ys) s
twice_right [] ys s t = t
twice_right (x ∷ xs) ys s t = Further (twice_right xs ys s t)

prod_named : (ps : List Prod) (p : Prod) → Contains ps p → Contains (declared_prods ps) (named p.span p.name)
prod_named [] p here = absurd (no_item here)
prod_named (q ∷ ps) p here = elim (item_cases q ps here) [
  | inl same ↦ let P : Prod → Type 0 = λ z. Contains (declared_prods (q ∷ ps)) (named z.span z.name) in
      subst P same (first_item (named q.span q.name) (declared_prods ps))
  | inr more ↦ later_item (named q.span q.name) (declared_prods ps) (prod_named ps p more)
]

first_of_prods : (ps : List Prod) → ((s : Span) → Twice (declared_prods ps) s → ⊥) → (p : Prod) → Contains ps p
    → body_of ps p.name ≡ Some p.body
first_of_prods [] none p here = absurd (no_item here)
first_of_prods (q ∷ ps) none p here = elim (item_cases q ps here) [
  | inl same ↦ at_head same
  | inr more ↦ further (pointwise ◌==◌ q.name p.name) refl more (first_of_prods ps (λ s t. none s (Further t)) p more)
]
  where
    itself : pointwise ◌==◌ q.name q.name ≡ true
    itself = nat_list_eq_equiv.refl q.name

    at_head : q ≡ p → body_of (q ∷ ps) p.name ≡ Some p.body
    at_head same = let P : Prod → Type 0 = λ z. body_of (q ∷ ps) z.name ≡ Some z.body in
        subst P same (ap (λ b. if b then Some q.body else body_of ps q.name) itself)

    further : (b : Bool) → pointwise ◌==◌ q.name p.name ≡ b → Contains ps p → body_of ps p.name ≡ Some p.body
        → (if b then Some q.body else body_of ps p.name) ≡ Some p.body
    further true same more rest =
        let e : p.name ≡ q.name = sym (same_text q.name p.name (sym same)) in
        absurd (none (later_span p.span q.span) (First {x = named q.span q.name} {y = named p.span p.name}
        (prod_named ps p more) e))
    further false other more rest = rest

pub are_first : (spec : Spec) → ((s : Span) → Rule5 spec s → ⊥) → AreFirst spec.prods
are_first spec none = record {
  first = first_of_prods spec.prods (λ s t. none s (DeclaredTwice
      (twice_right (declared_inputs spec.inputs) _ s (twice_right (declared_actions spec.actions) _ s
      (twice_right (declared_levels spec.levels) (declared_prods spec.prods) s t)))));
}
