-- Rules 9 and 10 are broken where the code finds it, once all is known of every production.
use Rattle.std.proofs.Common.{◌≡◌, ◌⊎◌, inl, inr, Bool, true, false, not, ◌||◌, List, [], ◌∷◌, Option, Some, None, refl}
use Rattle.std.proofs.Common.{sym, subst}
use Rattle.std.specs.Prelude.{Contains, if◌then◌else◌}
use Rattle.pbs_ast.proofs.Items.{first_item, later_item}
use Rattle.pbs_base.specs.declared.refusal.Span.{Span}
use Rattle.pbs_ast.specs.declared.syntax.Decl.{Decl}
use Rattle.pbs_ast.specs.declared.syntax.Expr.{Expr}
use Rattle.pbs_ast.specs.declared.syntax.Prod.{Prod}
use Rattle.pbs_ast.specs.declared.syntax.Spec.{Spec}
use Rattle.pbs_names.specs.Forms as forms
use Rattle.pbs_names.specs.Forms.{Form, form, Stands}
use Rattle.pbs_names.specs.Reach.{MayBeEmpty, HasTerminal}
use Rattle.pbs_names.specs.StarsAndScopes.{Rule9, EmptyStar, EmptyPlus, Rule10, EmptyTrap, ActionInTrap, ScopeInTrap}
use Rattle.pbs_names.specs.StarsAndScopes.{NoTerminal}
use Rattle.pbs_check.specs.declared.facts.Facts.{Facts}
use Rattle.pbs_check.specs.declared.uses.Look.TheVariants as looks
use Rattle.pbs_check.specs.declared.uses.Tables.{Tables}
use Rattle.pbs_check.specs.inner.Facts.{known_of, expr_facts}
use Rattle.pbs_check.specs.Least.{span_le, IsLeast, least_by}
use Rattle.pbs_check.specs.Using.{Leaf, NameLeaf, EqualLeaf, leaves}
use Rattle.pbs_check.specs.inner.Walking.{if_empty, if_wrong, leaf_broken, form_broken, own_broken, set_broken}
use Rattle.pbs_check.specs.inner.Walking.{level_broken}
use Rattle.pbs_check.specs.inner.Stages.{found_in}
use Rattle.pbs_check.specs.inner.Truth.{FactsAre, IsBusy, Decided, IsKnown}
use Rattle.pbs_check.proofs.FactTruth.{either_way}
use Rattle.pbs_check.proofs.LeastLemmas.{span_refl, least_either, least_by_is, least_by_in, OneOf, ByItem}
use Rattle.pbs_check.proofs.LimitRules.{Nothing, nothing_is, NoneListed}
use Rattle.pbs_check.proofs.StandLemmas.{all_exprs, exprs_stand, stands_listed}

-- the fact holds, and this is its place
data Here (P : Type 0) (span s : Span) : Type 0 where
  At : P → span ≡ s → Here P span s

here_is : (b : Bool) (P : Type 0) (span : Span) → Decided b P → IsLeast (Here P span) (if b then Some span else None)
here_is true P span p = (At p refl, λ s h. only h)
  where
    only : {s : Span} → Here P span s → span_le span s ≡ true
    only (At q is) = let Q : Span → Type 0 = λ t. span_le span t ≡ true in subst Q is (span_refl span)
here_is false P span p = λ s h. no h
  where
    no : {s : Span} → Here P span s → ⊥
    no (At q is) = p q

abbrev Never : Span → Type 0
Never s = ⊥

never_is : (o : Option Span) → o ≡ None → IsLeast Never o
never_is None is = λ s p. p
never_is (Some span) is = cc

-- ---- rule 9
abbrev Own9 : List Prod → Form → Span → Type 0
Own9 prods (forms.Star b) s = Here (MayBeEmpty prods (form b)) b.span s
Own9 prods (forms.Plus b) s = Here (MayBeEmpty prods (form b)) b.span s
Own9 prods _ s = ⊥

quiet9 : (tables : Tables) (inputs : List Decl) (xs : List Leaf)
    → least_by (leaf_broken looks.Stars tables inputs) xs ≡ None
quiet9 tables inputs [] = refl
quiet9 tables inputs (NameLeaf name span ∷ xs) = quiet9 tables inputs xs
quiet9 tables inputs (EqualLeaf name span number at ∷ xs) = quiet9 tables inputs xs

empty_is : (P : Type 0) (span : Span) (o : Option Facts) (f : Facts) → o ≡ Some f → Decided f.may_be_empty P
    → IsLeast (Here P span) (if_empty span o)
empty_is P span o f is p =
    let Q : Option Facts → Type 0 = λ z. IsLeast (Here P span) (if_empty span z) in subst Q (sym is)
    (here_is f.may_be_empty P span p)

own_9_is : (spec : Spec) (tables : Tables) → IsKnown spec tables → (span : Span) (f : Form)
    → ((x : Expr) → Contains (forms.parts f) x → Stands spec x)
    → IsLeast (Own9 spec.prods f) (form_broken looks.Stars tables spec.inputs span f)
own_9_is spec tables all span forms.Empty stand = never_is None refl
own_9_is spec tables all span (forms.Terminal t) stand = never_is
    (least_by (leaf_broken looks.Stars tables spec.inputs) (leaves t)) (quiet9 tables spec.inputs (leaves t))
own_9_is spec tables all span (forms.Action name at) stand = never_is None refl
own_9_is spec tables all span (forms.Seq items) stand = never_is None refl
own_9_is spec tables all span (forms.Choice items) stand = never_is None refl
own_9_is spec tables all span (forms.Star b) stand =
    let s = stand b (first_item b []) in empty_is (MayBeEmpty spec.prods (form b)) b.span
    (expr_facts (known_of tables.known) b) (all.facts b s) (all.known b s) (all.true_of b s).may
own_9_is spec tables all span (forms.Plus b) stand =
    let s = stand b (first_item b []) in empty_is (MayBeEmpty spec.prods (form b)) b.span
    (expr_facts (known_of tables.known) b) (all.facts b s) (all.known b s) (all.true_of b s).may
own_9_is spec tables all span (forms.Opt b) stand = never_is None refl
own_9_is spec tables all span (forms.Hold t b) stand = never_is
    (least_by (leaf_broken looks.Stars tables spec.inputs) (leaves t)) (quiet9 tables spec.inputs (leaves t))
own_9_is spec tables all span (forms.Scope b x h) stand = never_is None refl
own_9_is spec tables all span (forms.Name name) stand = never_is None refl
own_9_is spec tables all span (forms.Repeat b m n) stand = never_is None refl

abbrev Is9 : Spec → Expr → Span → Type 0
Is9 spec e s = Own9 spec.prods (form e) s

back_9 : (spec : Spec) (e : Expr) (f : Form) (s : Span) → Stands spec e → form e ≡ f → Own9 spec.prods f s
    → Rule9 spec s
back_9 spec e forms.Empty s stands is own = absurd own
back_9 spec e (forms.Terminal t) s stands is own = absurd own
back_9 spec e (forms.Action name at) s stands is own = absurd own
back_9 spec e (forms.Seq items) s stands is own = absurd own
back_9 spec e (forms.Choice items) s stands is own = absurd own
back_9 spec e (forms.Star b) s stands is (At may place) = let P : Span
    → Type 0 = Rule9 spec in subst P place (EmptyStar stands is may)
back_9 spec e (forms.Plus b) s stands is (At may place) = let P : Span
    → Type 0 = Rule9 spec in subst P place (EmptyPlus stands is may)
back_9 spec e (forms.Opt b) s stands is own = absurd own
back_9 spec e (forms.Hold t b) s stands is own = absurd own
back_9 spec e (forms.Scope b x h) s stands is own = absurd own
back_9 spec e (forms.Name name) s stands is own = absurd own
back_9 spec e (forms.Repeat b m n) s stands is own = absurd own

pub rule_9_is : (spec : Spec) (tables : Tables) → IsKnown spec tables
    → IsLeast (Rule9 spec) (found_in looks.Stars tables spec)
rule_9_is spec tables all =
    least_either (OneOf (Is9 spec) (all_exprs spec)) (OneOf NoneListed spec.levels) (Rule9 spec)
    (least_by (own_broken looks.Stars tables spec.inputs) (all_exprs spec))
    (least_by (level_broken looks.Stars tables) spec.levels)
    (least_by_in (Is9 spec) (own_broken looks.Stars tables spec.inputs) (all_exprs spec)
    (λ e here. own_9_is spec tables all e.span (form e) (λ x part. forms.OfPart (exprs_stand spec e here) part)))
    (least_by_is NoneListed (level_broken looks.Stars tables)
    (λ l. least_by_is Nothing (set_broken looks.Stars tables) (λ st. nothing_is st) l.sets) spec.levels)
    (λ s p. to p) (λ s p. absurd (none p)) (λ s r. from r)
  where
    to : {s : Span} → OneOf (Is9 spec) (all_exprs spec) s → Rule9 spec s
    to {s = s} (ByItem {x = e} here own) = back_9 spec e (form e) s (exprs_stand spec e here) refl own

    none : {s : Span} → OneOf NoneListed spec.levels s → ⊥
    none (ByItem here (ByItem there p)) = elim p [ ]

    from : {s : Span} → Rule9 spec s → OneOf (Is9 spec) (all_exprs spec) s ⊎ OneOf NoneListed spec.levels s
    from (EmptyStar {e = e} {b = b} stands is may) = let P : Form
        → Type 0 = λ f. Own9 spec.prods f b.span in inl
        (ByItem (stands_listed spec e stands) (subst P (sym is) (At may refl)))
    from (EmptyPlus {e = e} {b = b} stands is may) = let P : Form
        → Type 0 = λ f. Own9 spec.prods f b.span in inl
        (ByItem (stands_listed spec e stands) (subst P (sym is) (At may refl)))

-- ---- rule 10
abbrev IsWrongScope : List Prod → Expr → Expr → Type 0
IsWrongScope prods b x = (HasTerminal prods (form b) → ⊥) ⊎ (MayBeEmpty prods (form x) ⊎ IsBusy prods (form x))

abbrev Own10 : List Prod → Span → Form → Span → Type 0
Own10 prods span (forms.Scope b x h) s = Here (IsWrongScope prods b x) span s
Own10 prods span _ s = ⊥

quiet10 : (tables : Tables) (inputs : List Decl) (xs : List Leaf)
    → least_by (leaf_broken looks.Scopes tables inputs) xs ≡ None
quiet10 tables inputs [] = refl
quiet10 tables inputs (NameLeaf name span ∷ xs) = quiet10 tables inputs xs
quiet10 tables inputs (EqualLeaf name span number at ∷ xs) = quiet10 tables inputs xs

not_decided : (b : Bool) (P : Type 0) → Decided b P → Decided (not b) (P → ⊥)
not_decided true P p = λ no. no p
not_decided false P p = p

wrong_is : (prods : List Prod) (b x : Expr) (span : Span) (o p : Option Facts) (f g : Facts) → o ≡ Some f → p ≡ Some g
    → FactsAre prods (form b) f → FactsAre prods (form x) g
    → IsLeast (Here (IsWrongScope prods b x) span) (if_wrong span o p)
wrong_is prods b x span o p f g is js q r =
    let Q : Option Facts → Type 0 = λ z. IsLeast (Here (IsWrongScope prods b x) span) (if_wrong span z p) in
    let R : Option Facts → Type 0 = λ z. IsLeast (Here (IsWrongScope prods b x) span) (if_wrong span (Some f) z) in
    subst Q (sym is) (subst R (sym js) (here_is (not f.has_terminal || (g.may_be_empty || g.is_busy))
    (IsWrongScope prods b x) span
    (either_way (not f.has_terminal) (g.may_be_empty || g.is_busy) (HasTerminal prods (form b)
    → ⊥) (MayBeEmpty prods (form x) ⊎ IsBusy prods (form x)) (IsWrongScope prods b x)
    (not_decided f.has_terminal (HasTerminal prods (form b)) q.has)
    (either_way g.may_be_empty g.is_busy (MayBeEmpty prods (form x)) (IsBusy prods (form x))
    (MayBeEmpty prods (form x) ⊎ IsBusy prods (form x)) r.may r.busy (λ h. inl h) (λ h. inr h) (λ h. h))
    (λ h. inl h) (λ h. inr h) (λ h. h))))

own_10_is : (spec : Spec) (tables : Tables) → IsKnown spec tables → (span : Span) (f : Form)
    → ((x : Expr) → Contains (forms.parts f) x → Stands spec x)
    → IsLeast (Own10 spec.prods span f) (form_broken looks.Scopes tables spec.inputs span f)
own_10_is spec tables all span forms.Empty stand = never_is None refl
own_10_is spec tables all span (forms.Terminal t) stand = never_is
    (least_by (leaf_broken looks.Scopes tables spec.inputs) (leaves t)) (quiet10 tables spec.inputs (leaves t))
own_10_is spec tables all span (forms.Action name at) stand = never_is None refl
own_10_is spec tables all span (forms.Seq items) stand = never_is None refl
own_10_is spec tables all span (forms.Choice items) stand = never_is None refl
own_10_is spec tables all span (forms.Star b) stand = never_is None refl
own_10_is spec tables all span (forms.Plus b) stand = never_is None refl
own_10_is spec tables all span (forms.Opt b) stand = never_is None refl
own_10_is spec tables all span (forms.Hold t b) stand = never_is
    (least_by (leaf_broken looks.Scopes tables spec.inputs) (leaves t)) (quiet10 tables spec.inputs (leaves t))
own_10_is spec tables all span (forms.Scope b x h) stand =
    let s = stand b (first_item b (x ∷ h ∷ [])) in let r = stand x (later_item b (x ∷ h ∷ []) (first_item x (h ∷ [])))
    in
    wrong_is spec.prods b x span (expr_facts (known_of tables.known) b) (expr_facts (known_of tables.known) x)
    (all.facts b s) (all.facts x r) (all.known b s) (all.known x r) (all.true_of b s) (all.true_of x r)
own_10_is spec tables all span (forms.Name name) stand = never_is None refl
own_10_is spec tables all span (forms.Repeat b m n) stand = never_is None refl

abbrev Is10 : Spec → Expr → Span → Type 0
Is10 spec e s = Own10 spec.prods e.span (form e) s

back_10 : (spec : Spec) (e : Expr) (f : Form) (s : Span) → Stands spec e → form e ≡ f → Own10 spec.prods e.span f s
    → Rule10 spec s
back_10 spec e forms.Empty s stands is own = absurd own
back_10 spec e (forms.Terminal t) s stands is own = absurd own
back_10 spec e (forms.Action name at) s stands is own = absurd own
back_10 spec e (forms.Seq items) s stands is own = absurd own
back_10 spec e (forms.Choice items) s stands is own = absurd own
back_10 spec e (forms.Star b) s stands is own = absurd own
back_10 spec e (forms.Plus b) s stands is own = absurd own
back_10 spec e (forms.Opt b) s stands is own = absurd own
back_10 spec e (forms.Hold t b) s stands is own = absurd own
back_10 spec e (forms.Scope b x h) s stands is (At (inl none) place) = let P : Span
    → Type 0 = Rule10 spec in subst P place (NoTerminal stands is none)
back_10 spec e (forms.Scope b x h) s stands is (At (inr (inl may)) place) = let P : Span
    → Type 0 = Rule10 spec in subst P place (EmptyTrap stands is may)
back_10 spec e (forms.Scope b x h) s stands is (At (inr (inr (inl action))) place) = let P : Span
    → Type 0 = Rule10 spec in subst P place (ActionInTrap stands is action)
back_10 spec e (forms.Scope b x h) s stands is (At (inr (inr (inr scope))) place) = let P : Span
    → Type 0 = Rule10 spec in subst P place (ScopeInTrap stands is scope)
back_10 spec e (forms.Name name) s stands is own = absurd own
back_10 spec e (forms.Repeat b m n) s stands is own = absurd own

pub rule_10_is : (spec : Spec) (tables : Tables) → IsKnown spec tables
    → IsLeast (Rule10 spec) (found_in looks.Scopes tables spec)
rule_10_is spec tables all =
    least_either (OneOf (Is10 spec) (all_exprs spec)) (OneOf NoneListed spec.levels) (Rule10 spec)
    (least_by (own_broken looks.Scopes tables spec.inputs) (all_exprs spec))
    (least_by (level_broken looks.Scopes tables) spec.levels)
    (least_by_in (Is10 spec) (own_broken looks.Scopes tables spec.inputs) (all_exprs spec)
    (λ e here. own_10_is spec tables all e.span (form e) (λ x part. forms.OfPart (exprs_stand spec e here) part)))
    (least_by_is NoneListed (level_broken looks.Scopes tables)
    (λ l. least_by_is Nothing (set_broken looks.Scopes tables) (λ st. nothing_is st) l.sets) spec.levels)
    (λ s p. to p) (λ s p. absurd (none p)) (λ s r. from r)
  where
    to : {s : Span} → OneOf (Is10 spec) (all_exprs spec) s → Rule10 spec s
    to {s = s} (ByItem {x = e} here own) = back_10 spec e (form e) s (exprs_stand spec e here) refl own

    none : {s : Span} → OneOf NoneListed spec.levels s → ⊥
    none (ByItem here (ByItem there p)) = elim p [ ]

    by : (e b x h : Expr) → Stands spec e → form e ≡ forms.Scope b x h → IsWrongScope spec.prods b x
        → OneOf (Is10 spec) (all_exprs spec) e.span ⊎ OneOf NoneListed spec.levels e.span
    by e b x h stands is wrong = let P : Form → Type 0 = λ f. Own10 spec.prods e.span f e.span in inl
        (ByItem (stands_listed spec e stands) (subst P (sym is) (At wrong refl)))

    from : {s : Span} → Rule10 spec s → OneOf (Is10 spec) (all_exprs spec) s ⊎ OneOf NoneListed spec.levels s
    from (EmptyTrap {e = e} {b = b} {x = x} {h = h} stands is may) = by e b x h stands is (inr (inl may))
    from (ActionInTrap {e = e} {b = b} {x = x} {h = h} stands is action) = by e b x h stands is (inr (inr (inl action)))
    from (ScopeInTrap {e = e} {b = b} {x = x} {h = h} stands is scope) = by e b x h stands is (inr (inr (inr scope)))
    from (NoTerminal {e = e} {b = b} {x = x} {h = h} stands is without) = by e b x h stands is (inl without)
