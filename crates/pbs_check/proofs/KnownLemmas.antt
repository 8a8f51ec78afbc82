-- Where nothing more can be learnt, either all is known or productions use each other.
use Rattle.std.proofs.Common.{◌≡◌, ◌≤◌, ◌+◌, ℕ, zero, suc, Bool, true, ◌⊎◌, inl, inr, List, [], ◌∷◌, length, Option}
use Rattle.std.proofs.Common.{Some, None, nat_eq, refl, sym, ap, subst, ◌∙◌, arith}
use Rattle.std.specs.Prelude.{Contains}
use Rattle.pbs_ast.proofs.Items.{first_item, later_item, no_item, item_cases}
use Rattle.pbs_base.specs.declared.refusal.Span.{Span}
use Rattle.pbs_ast.specs.declared.syntax.Expr.{Expr}
use Rattle.pbs_ast.specs.declared.syntax.Prod.{Prod}
use Rattle.pbs_ast.specs.declared.syntax.Spec.{Spec}
use Rattle.pbs_ast.specs.declared.syntax.Kind as kind
use Rattle.pbs_names.specs.Forms as forms
use Rattle.pbs_names.specs.Forms.{Form, form, form_of, parts, Stands, OfMain, OfProd}
use Rattle.pbs_names.specs.Naming.{index_of, prod_names}
use Rattle.pbs_check.specs.declared.facts.Facts.{Facts}
use Rattle.pbs_check.specs.declared.uses.Wanted.TheVariants as wanted
use Rattle.pbs_check.specs.inner.Facts.{after, either, or_empty, scope_of, choice_of, kind_facts, expr_facts, all_facts}
use Rattle.pbs_check.specs.inner.Facts.{any_facts}
use Rattle.pbs_check.specs.Recursion.{IsWithin, Whole, OfPart, UsesAt, Here, Reaches, Arrived, Rule8, Recursive}
use Rattle.pbs_check.specs.inner.Truth.{AreFirst, IsStuck, AreKnown}
use Rattle.pbs_check.specs.Using.{use_of, own_uses, IsUse, InExpr, Rule6, NotDeclared, Rule7, WrongKind}
use Rattle.pbs_check.proofs.FactLemmas.{row_all_is, row_any_is}
use Rattle.pbs_check.proofs.NamedLemmas.{found, absent}
use Rattle.pbs_check.proofs.RecursionLemmas.{reach_on}
use Rattle.pbs_check.proofs.StandLemmas.{every}

-- ---- what is not known uses a name that isn't
data IsOpen (known : List ℕ → Option Facts) (f : Form) : Type 0 where
  ByName : {name : List ℕ} → f ≡ forms.Name name → known name ≡ None → IsOpen known f
  ByPart : {x : Expr} → Contains (parts f) x → expr_facts known x ≡ None → IsOpen known f

after_none : (a b : Option Facts) → after a b ≡ None → (a ≡ None) ⊎ (b ≡ None)
after_none None b h = inl refl
after_none (Some a) None h = inr refl
after_none (Some a) (Some b) h = cc

either_none : (a b : Option Facts) → either a b ≡ None → (a ≡ None) ⊎ (b ≡ None)
either_none None b h = inl refl
either_none (Some a) None h = inr refl
either_none (Some a) (Some b) h = cc

or_none : (may : Bool) (a : Option Facts) → or_empty may a ≡ None → a ≡ None
or_none may None h = refl
or_none may (Some a) h = cc

scope_none : (a b c : Option Facts) → scope_of a b c ≡ None → (a ≡ None) ⊎ ((b ≡ None) ⊎ (c ≡ None))
scope_none None b c h = inl refl
scope_none (Some a) None c h = inr (inl refl)
scope_none (Some a) (Some b) None h = inr (inr refl)
scope_none (Some a) (Some b) (Some c) h = cc

all_none : (known : List ℕ → Option Facts) (es : List Expr) → all_facts known es ≡ None
    → (x : Expr) × Contains es x × (expr_facts known x ≡ None)
all_none known [] h = cc
all_none known (e ∷ es) h = elim (after_none (expr_facts known e) (all_facts known es) h) [
  | inl this ↦ (e, first_item e es, this)
  | inr more ↦ let rest = all_none known es more in (rest.0, later_item e es rest.1, rest.2)
]

any_none : (known : List ℕ → Option Facts) (es : List Expr) → any_facts known es ≡ None
    → (x : Expr) × Contains es x × (expr_facts known x ≡ None)
any_none known [] h = cc
any_none known (e ∷ es) h = elim (either_none (expr_facts known e) (any_facts known es) h) [
  | inl this ↦ (e, first_item e es, this)
  | inr more ↦ let rest = any_none known es more in (rest.0, later_item e es rest.1, rest.2)
]

choice_none : (known : List ℕ → Option Facts) (es : List Expr) → choice_of es (any_facts known es) ≡ None
    → (x : Expr) × Contains es x × (expr_facts known x ≡ None)
choice_none known [] h = cc
choice_none known (e ∷ es) h = any_none known (e ∷ es) h

kind_open : (known : List ℕ → Option Facts) (k : kind.Kind) → kind_facts known k ≡ None → IsOpen known (form_of k)
kind_open known kind.Empty h = cc
kind_open known (kind.Terminal t) h = cc
kind_open known (kind.Action name at) h = cc
kind_open known (kind.Seq' n row) h = let x = all_none known _ (sym (row_all_is known _ row) ∙ h) in ByPart x.1 x.2
kind_open known (kind.Choice' n row) h = let x = choice_none known _
    (ap (choice_of _) (sym (row_any_is known _ row)) ∙ h) in ByPart x.1 x.2
kind_open known (kind.Star' p s e) h = ByPart (first_item (forms.expr_of s e) []) (or_none true (kind_facts known e) h)
kind_open known (kind.Plus' p s e) h = ByPart (first_item (forms.expr_of s e) []) h
kind_open known (kind.Opt' p s e) h = ByPart (first_item (forms.expr_of s e) []) (or_none true (kind_facts known e) h)
kind_open known (kind.Hold' t p s e) h = ByPart (first_item (forms.expr_of s e) []) h
kind_open known (kind.Scope' p s e q s' y r s'' z) h =
    let b = forms.expr_of s e in let x = forms.expr_of s' y in let l = forms.expr_of s'' z in
    elim (scope_none (kind_facts known e) (kind_facts known y) (kind_facts known z) h) [
      | inl body ↦ ByPart (first_item b (x ∷ l ∷ [])) body
      | inr (inl trap) ↦ ByPart (later_item b (x ∷ l ∷ []) (first_item x (l ∷ []))) trap
      | inr (inr last) ↦ ByPart (later_item b (x ∷ l ∷ []) (later_item x (l ∷ []) (first_item l []))) last
    ]
kind_open known (kind.Name name) h = ByName refl h
kind_open known (kind.Repeat' p s e m n) h = ByPart (first_item (forms.expr_of s e) [])
    (or_none (nat_eq m 0) (kind_facts known e) h)

record UsesUnknown (known : List ℕ → Option Facts) (e : Expr) : Type 0 where
  name : List ℕ
  span : Span
  uses_it : UsesAt e name span
  none : known name ≡ None

abbrev OpenUses : (List ℕ → Option Facts) → Expr → Type 0
OpenUses known e = expr_facts known e ≡ None → UsesUnknown known e

use_up : {e x : Expr} {name : List ℕ} {span : Span} → Contains (parts (form e)) x → UsesAt x name span
    → UsesAt e name span
use_up part (Here within is) = Here (OfPart part within) is

unknown_use : (known : List ℕ → Option Facts) (e : Expr) → OpenUses known e
unknown_use known = every (OpenUses known) (λ e part none. step e part (kind_open known e.kind none))
  where
    step : (e : Expr) → ((x : Expr) → Contains (parts (form e)) x → OpenUses known x) → IsOpen known (form e)
        → UsesUnknown known e
    step e part (ByName {name = name} is none) = record {
      name = name;
      span = e.span;
      uses_it = Here Whole is;
      none = none;
    }
    step e part (ByPart {x = x} in_e none) = let inner = part x in_e none in
        record { name = inner.name; span = inner.span; uses_it = use_up in_e inner.uses_it; none = inner.none }

-- ---- the names that are used are those of productions
stands_within : {spec : Spec} {d e : Expr} → IsWithin d e → Stands spec e → Stands spec d
stands_within Whole stands = stands
stands_within (OfPart part more) stands = stands_within more (forms.OfPart stands part)

name_prod : (ps : List Prod) (name : List ℕ) → Contains (prod_names ps) name
    → (q : Prod) × Contains ps q × (q.name ≡ name)
name_prod [] name here = absurd (no_item here)
name_prod (p ∷ ps) name here = elim (item_cases p.name (prod_names ps) here) [
  | inl same ↦ (p, first_item p ps, same)
  | inr more ↦ let rest = name_prod ps name more in (rest.0, later_item p ps rest.1, rest.2)
]

used_prod : (spec : Spec) → ((s : Span) → Rule6 spec s → ⊥) → ((s : Span) → Rule7 spec s → ⊥) → (e : Expr)
    → Stands spec e → (name : List ℕ) (span : Span) → UsesAt e name span
    → (q : Prod) × Contains spec.prods q × (q.name ≡ name)
used_prod spec none_6 none_7 e stands name span (Here {d = d} within is) = chosen
    (index_of (prod_names spec.prods) name) refl
  where
    is_use : IsUse spec (use_of wanted.Production name d.span)
    is_use =
        let P : Form → Type 0 = λ f. Contains (own_uses d f) (use_of wanted.Production name d.span) in
        InExpr (stands_within within stands) (subst P (sym is) (first_item (use_of wanted.Production name d.span) []))

    chosen : (o : Option ℕ) → index_of (prod_names spec.prods) name ≡ o
        → (q : Prod) × Contains spec.prods q × (q.name ≡ name)
    chosen (Some n) at = name_prod spec.prods name (found name 0 n (prod_names spec.prods) at)
    chosen None at = absurd (none_6 d.span (NotDeclared is_use
        (λ declared. none_7 d.span (WrongKind is_use declared (absent name 0 (prod_names spec.prods) at)))))

-- ---- from one that is not known to the next, until one comes again
record Without (rest : List Prod) (q : Prod) : Type 0 where
  left : List Prod
  shorter : length rest ≡ length left + 1
  others : (r : Prod) → Contains rest r → (q ≡ r) ⊎ Contains left r

without : (rest : List Prod) (q : Prod) → Contains rest q → Without rest q
without [] q here = absurd (no_item here)
without (p ∷ rest) q here = elim (item_cases p rest here) [
  | inl same ↦ record {
    left = rest;
    shorter = omega arith;
    others = λ r there. elim (item_cases p rest there) [ inl e ↦ inl (sym same ∙ e) | inr more ↦ inr more ];
  }
  | inr more ↦ let w = without rest q more in record {
    left = p ∷ w.left;
    shorter = omega (arith, w.shorter);
    others = λ r there. elim (item_cases p rest there) [
      | inl e ↦ let P : Prod → Type 0 = Contains (p ∷ w.left) in inr (subst P e (first_item p w.left))
      | inr later ↦ elim (w.others r later) [ inl e ↦ inl e | inr kept ↦ inr (later_item p w.left kept) ]
    ];
  }
]

module _ (spec : Spec) (known : List ℕ → Option Facts) (first : AreFirst spec.prods) (stuck : IsStuck spec.prods known)
    (none_6 : (s : Span) → Rule6 spec s → ⊥) (none_7 : (s : Span) → Rule7 spec s → ⊥)
    (none_8 : (s : Span) → Rule8 spec s → ⊥) where
  record Next (e : Expr) : Type 0 where
    q : Prod
    here : Contains spec.prods q
    span : Span
    uses_q : UsesAt e q.name span
    none : known q.name ≡ None

  next_of : (e : Expr) → Stands spec e → expr_facts known e ≡ None → Next e
  next_of e stands none =
      let u = unknown_use known e none in let q = used_prod spec none_6 none_7 e stands u.name u.span u.uses_it in
      let P : List ℕ → Type 0 = λ n. UsesAt e n (u.span) in
      record { q = q.0; here = q.1; span = u.span; uses_q = subst P (sym q.2) u.uses_it; none = ap known q.2 ∙ u.none }

  no_unknown : (k : ℕ) (rest : List Prod) → length rest ≤ k → (p : Prod) → Contains spec.prods p → known p.name ≡ None
      → ((q : Prod) → Contains spec.prods q → known q.name ≡ None → Contains rest q ⊎ Reaches spec.prods p.name q.name)
      → ⊥
  no_unknown zero rest few p here none reach =
      let n = next_of p.body (OfProd here) (stuck.stuck p here none) in
      elim (reach n.q n.here n.none) [
        | inl (i, within, is) ↦ omega (arith, few, within)
        | inr reaches ↦ none_8 n.span (Recursive here n.uses_q reaches)
      ]
  no_unknown (suc k) rest few p here none reach =
      let n = next_of p.body (OfProd here) (stuck.stuck p here none) in
      elim (reach n.q n.here n.none) [
        | inl left ↦
            let w = without rest n.q left in let h = w.shorter in
            no_unknown k w.left (omega (arith, h, few)) n.q n.here n.none
            (λ r there unknown. elim (reach r there unknown) [
              | inl in_rest ↦ elim (w.others r in_rest) [
                | inl e ↦ let P : Prod → Type 0 = λ z. Reaches spec.prods (n.q).name z.name in inr (subst P e Arrived)
                | inr kept ↦ inl kept
              ]
              | inr reaches ↦ inr (reach_on reaches (first.first p here) n.uses_q)
            ])
        | inr reaches ↦ none_8 n.span (Recursive here n.uses_q reaches)
      ]

  known_if : (e : Expr) → Stands spec e → (o : Option Facts) → expr_facts known e ≡ o
      → (f : Facts) × (expr_facts known e ≡ Some f)
  known_if e stands (Some f) is = (f, is)
  known_if e stands None is =
      let n = next_of e stands is in
      absurd (no_unknown (length spec.prods) spec.prods (omega arith) n.q n.here n.none (λ q here unknown. inl here))

  pub every_known : AreKnown spec known
  every_known = record {
    bodies = λ p here. known_if p.body (OfProd here) (expr_facts known p.body) refl;
    main = known_if spec.main OfMain (expr_facts known spec.main) refl;
  }
