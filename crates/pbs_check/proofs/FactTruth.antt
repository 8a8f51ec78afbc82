-- The facts that are found are those of the expression, where those that are known are so.
use Rattle.std.proofs.Common.{◌≡◌, ◌⊎◌, inl, inr, ℕ, Bool, true, false, ◌&&◌, ◌||◌, List, [], ◌∷◌, Option, Some, None}
use Rattle.std.proofs.Common.{nat_eq, refl, sym, ap, subst, ◌∙◌, arith}
use Rattle.std.specs.Prelude.{Contains}
use Rattle.std.proofs.lemmas.Bool.Decides.{nat_tests}
use Rattle.pbs_ast.proofs.Items.{first_item, later_item, no_item, item_cases}
use Rattle.pbs_base.specs.declared.refusal.Span.{Span}
use Rattle.pbs_ast.specs.declared.syntax.Expr.{Expr}
use Rattle.pbs_ast.specs.declared.syntax.Prod.{Prod}
use Rattle.pbs_ast.specs.declared.syntax.SpecTerm.{SpecTerm}
use Rattle.pbs_ast.specs.declared.syntax.Kind as kind
use Rattle.pbs_names.specs.Naming.{body_of}
use Rattle.pbs_names.specs.Forms as forms
use Rattle.pbs_names.specs.Forms.{Form, form, form_of, parts}
use Rattle.pbs_names.specs.Reach.{Itself, InPart, InProd, HasTerminal, HasAction, HasScope, MayBeEmpty, EmptyMay}
use Rattle.pbs_names.specs.Reach.{ActionMay, AllMay, SomeMay, NoneMay, StarMay, PlusMay, OptMay, HoldMay, ScopeMay}
use Rattle.pbs_names.specs.Reach.{NameMay, UnknownMay, NoCopyMay, CopiesMay}
use Rattle.pbs_check.specs.declared.facts.Facts.{Facts}
use Rattle.pbs_check.specs.inner.Facts.{fact, after, either, or_empty, scope_of, choice_of, kind_facts, expr_facts}
use Rattle.pbs_check.specs.inner.Facts.{all_facts, any_facts}
use Rattle.pbs_check.specs.inner.Truth.{Decided, IsBusy, FactsAre, Knows}
use Rattle.pbs_check.proofs.StandLemmas.{every}
use Rattle.pbs_check.proofs.FactLemmas.{row_all_is, row_any_is}

moved : (b : Bool) (P Q : Type 0) → (P → Q) → (Q → P) → Decided b P → Decided b Q
moved true P Q to from p = to p
moved false P Q to from p = λ q. p (from q)

pub either_way : (a b : Bool) (P Q R : Type 0) → Decided a P → Decided b Q → (P → R) → (Q → R) → (R → P ⊎ Q)
    → Decided (a || b) R
either_way true b P Q R p q left right split = left p
either_way false true P Q R p q left right split = right q
either_way false false P Q R p q left right split = λ r. elim (split r) [ inl h ↦ p h | inr h ↦ q h ]

both_ways : (a b : Bool) (P Q R : Type 0) → Decided a P → Decided b Q → (P → Q → R) → (R → P) → (R → Q)
    → Decided (a && b) R
both_ways true true P Q R p q join first second = join p q
both_ways true false P Q R p q join first second = λ r. q (second r)
both_ways false b P Q R p q join first second = λ r. p (first r)

-- of a list of expressions
abbrev AllMayBe : List Prod → List Expr → Type 0
AllMayBe prods es = (e : Expr) → Contains es e → MayBeEmpty prods (form e)

data One (P : Expr → Type 0) (es : List Expr) : Type 0 where
  ByOne : {e : Expr} → Contains es e → P e → One P es

abbrev May : List Prod → Expr → Type 0
May prods e = MayBeEmpty prods (form e)

abbrev Has : List Prod → Expr → Type 0
Has prods e = HasTerminal prods (form e)

abbrev Busy : List Prod → Expr → Type 0
Busy prods e = IsBusy prods (form e)

one_first : (P : Expr → Type 0) (x : Expr) (es : List Expr) → P x → One P (x ∷ es)
one_first P x es p = ByOne (first_item x es) p

one_later : (P : Expr → Type 0) (x : Expr) (es : List Expr) → One P es → One P (x ∷ es)
one_later P x es (ByOne here p) = ByOne (later_item x es here) p

one_split : (P : Expr → Type 0) (x : Expr) (es : List Expr) → One P (x ∷ es) → P x ⊎ One P es
one_split P x es (ByOne here p) = elim (item_cases x es here)
    [ inl same ↦ inl (subst P (sym same) p) | inr more ↦ inr (ByOne more p) ]

one_none : (P : Expr → Type 0) → One P [] → ⊥
one_none P (ByOne here p) = no_item here

one_of : (P : Expr → Type 0) (b : Bool) (x : Expr) → Decided b (P x) → Decided b (One P (x ∷ []))
one_of P b x p = moved b (P x) (One P (x ∷ [])) (one_first P x [])
    (λ o. elim (one_split P x [] o) [ inl h ↦ h | inr h ↦ absurd (one_none P h) ]) p

record ListIs (prods : List Prod) (es : List Expr) (facts : Facts) : Type 0 where
  has : Decided facts.has_terminal (One (Has prods) es)
  busy : Decided facts.is_busy (One (Busy prods) es)

-- what is known of an expression
abbrev Sound : List Prod → (List ℕ → Option Facts) → Expr → Type 0
Sound prods known e = (facts : Facts) → expr_facts known e ≡ Some facts → FactsAre prods (form e) facts

pub after_some : (a b : Option Facts) (f : Facts) → after a b ≡ Some f
    → (x : Facts) × (y : Facts) × (a ≡ Some x) × (b ≡ Some y) ×
    (fact (x.may_be_empty && y.may_be_empty) (x.has_terminal || y.has_terminal) (x.is_busy || y.is_busy) ≡ f)
after_some None b f h = cc
after_some (Some a) None f h = cc
after_some (Some a) (Some b) f h = (a, b, refl, refl, cc)

pub either_some : (a b : Option Facts) (f : Facts) → either a b ≡ Some f
    → (x : Facts) × (y : Facts) × (a ≡ Some x) × (b ≡ Some y) ×
    (fact (x.may_be_empty || y.may_be_empty) (x.has_terminal || y.has_terminal) (x.is_busy || y.is_busy) ≡ f)
either_some None b f h = cc
either_some (Some a) None f h = cc
either_some (Some a) (Some b) f h = (a, b, refl, refl, cc)

record AllAre (prods : List Prod) (es : List Expr) (facts : Facts) : Type 0 where
  may : Decided facts.may_be_empty (AllMayBe prods es)
  list : ListIs prods es facts

record AnyIs (prods : List Prod) (es : List Expr) (facts : Facts) : Type 0 where
  may : Decided facts.may_be_empty (One (May prods) es)
  list : ListIs prods es facts

joined : (prods : List Prod) (x : Expr) (es : List Expr) (a b : Facts) (may : Bool) → FactsAre prods (form x) a
    → ListIs prods es b → ListIs prods (x ∷ es) (fact may (a.has_terminal || b.has_terminal) (a.is_busy || b.is_busy))
joined prods x es a b may p q = record {
  has = either_way a.has_terminal b.has_terminal (Has prods x) (One (Has prods) es) (One (Has prods) (x ∷ es)) p.has
      q.has (one_first (Has prods) x es) (one_later (Has prods) x es) (one_split (Has prods) x es);
  busy = either_way a.is_busy b.is_busy (Busy prods x) (One (Busy prods) es) (One (Busy prods) (x ∷ es)) p.busy q.busy
      (one_first (Busy prods) x es) (one_later (Busy prods) x es) (one_split (Busy prods) x es);
}

all_are : (prods : List Prod) (known : List ℕ → Option Facts) (es : List Expr)
    → ((x : Expr) → Contains es x → Sound prods known x) → (f : Facts) → all_facts known es ≡ Some f → AllAre prods es f
all_are prods known [] each f h =
    let same : fact true false false ≡ f = cc in let P : Facts → Type 0 = AllAre prods [] in
    subst P same (record {
      may = λ e here. absurd (no_item here);
      list = record
          { has = one_none (Has prods); busy = one_none (Busy prods) };
    })
all_are prods known (x ∷ es) each f h =
    let two = after_some (expr_facts known x) (all_facts known es) f h in let a = two.0 in let b = two.1 in
    let p = each x (first_item x es) a two.2 in let q = all_are prods known es
    (λ y here. each y (later_item x es here)) b two.3 in
    let P : Facts → Type 0 = AllAre prods (x ∷ es) in
    subst P two.4 (record {
      may = both_ways a.may_be_empty b.may_be_empty (May prods x) (AllMayBe prods es) (AllMayBe prods (x ∷ es)) p.may
          q.may (λ m ms e here. all_of m ms e here) (λ all. all x (first_item x es))
          (λ all e here. all e (later_item x es here));
      list = joined prods x es a b (a.may_be_empty && b.may_be_empty) p q.list;
    })
  where
    all_of : May prods x → AllMayBe prods es → (e : Expr) → Contains (x ∷ es) e → May prods e
    all_of m ms e here = let Q : Expr → Type 0 = May prods in elim (item_cases x es here)
        [ inl same ↦ subst Q same m | inr more ↦ ms e more ]

any_is : (prods : List Prod) (known : List ℕ → Option Facts) (es : List Expr)
    → ((x : Expr) → Contains es x → Sound prods known x) → (f : Facts) → any_facts known es ≡ Some f → AnyIs prods es f
any_is prods known [] each f h =
    let same : fact false false false ≡ f = cc in let P : Facts → Type 0 = AnyIs prods [] in
    subst P same (record {
      may = one_none (May prods);
      list = record
          { has = one_none (Has prods); busy = one_none (Busy prods) };
    })
any_is prods known (x ∷ es) each f h =
    let two = either_some (expr_facts known x) (any_facts known es) f h in let a = two.0 in let b = two.1 in
    let p = each x (first_item x es) a two.2 in let q = any_is prods known es
    (λ y here. each y (later_item x es here)) b two.3 in
    let P : Facts → Type 0 = AnyIs prods (x ∷ es) in
    subst P two.4 (record {
      may = either_way a.may_be_empty b.may_be_empty (May prods x) (One (May prods) es) (One (May prods) (x ∷ es))
          p.may q.may (one_first (May prods) x es) (one_later (May prods) x es) (one_split (May prods) x es);
      list = joined prods x es a b (a.may_be_empty || b.may_be_empty) p q.list;
    })

-- what lies in a form lies in its parts
has_down : (prods : List Prod) (f : Form) → ((t : SpecTerm) → forms.Terminal t ≡ f → ⊥)
    → ((name : List ℕ) → forms.Name name ≡ f → ⊥) → HasTerminal prods f → One (Has prods) (parts f)
has_down prods f plain unnamed (t, Itself) = absurd (plain t refl)
has_down prods f plain unnamed (t, InPart here lies) = ByOne here (t, lies)
has_down prods f plain unnamed (t, InProd {name = name} is lies) = absurd (unnamed name refl)

has_up : (prods : List Prod) (f : Form) → One (Has prods) (parts f) → HasTerminal prods f
has_up prods f (ByOne here (t, lies)) = (t, InPart here lies)

action_down : (prods : List Prod) (f : Form) → ((name : List ℕ) (at : Span) → forms.Action name at ≡ f → ⊥)
    → ((name : List ℕ) → forms.Name name ≡ f → ⊥) → HasAction prods f → One (Busy prods) (parts f)
action_down prods f plain unnamed (name, at, Itself) = absurd (plain name at refl)
action_down prods f plain unnamed (name, at, InPart here lies) = ByOne here (inl (name, at, lies))
action_down prods f plain unnamed (name, at, InProd {name = other} is lies) = absurd (unnamed other refl)

scope_down : (prods : List Prod) (f : Form) → ((b x h : Expr) → forms.Scope b x h ≡ f → ⊥)
    → ((name : List ℕ) → forms.Name name ≡ f → ⊥) → HasScope prods f → One (Busy prods) (parts f)
scope_down prods f plain unnamed (b, x, h, Itself) = absurd (plain b x h refl)
scope_down prods f plain unnamed (b, x, h, InPart here lies) = ByOne here (inr (b, x, h, lies))
scope_down prods f plain unnamed (b, x, h, InProd {name = other} is lies) = absurd (unnamed other refl)

busy_up : (prods : List Prod) (f : Form) → One (Busy prods) (parts f) → IsBusy prods f
busy_up prods f (ByOne here (inl (name, at, lies))) = inl (name, at, InPart here lies)
busy_up prods f (ByOne here (inr (b, x, h, lies))) = inr (b, x, h, InPart here lies)

-- the form is made of its parts alone
record IsMade (f : Form) : Type 0 where
  terminal : (t : SpecTerm) → forms.Terminal t ≡ f → ⊥
  action : (name : List ℕ) (at : Span) → forms.Action name at ≡ f → ⊥
  scope : (b x h : Expr) → forms.Scope b x h ≡ f → ⊥
  name : (name : List ℕ) → forms.Name name ≡ f → ⊥

made_of : (prods : List Prod) (f : Form) (facts : Facts) → IsMade f → ListIs prods (parts f) facts
    → Decided facts.may_be_empty (MayBeEmpty prods f) → FactsAre prods f facts
made_of prods f facts made list may = record {
  may = may;
  has = moved facts.has_terminal (One (Has prods) (parts f)) (HasTerminal prods f) (has_up prods f)
      (has_down prods f made.terminal made.name) list.has;
  busy = moved facts.is_busy (One (Busy prods) (parts f)) (IsBusy prods f) (busy_up prods f)
      (λ busy. elim busy [
        | inl h ↦ action_down prods f made.action made.name h
        | inr h ↦ scope_down prods f made.scope
            made.name h
      ]) list.busy;
}

list_of_one : (prods : List Prod) (e : Expr) (a : Facts) (may : Bool) → FactsAre prods (form e) a
    → ListIs prods (e ∷ []) (fact may a.has_terminal a.is_busy)
list_of_one prods e a may p = record {
  has = one_of (Has prods) a.has_terminal e p.has;
  busy = one_of (Busy prods)
      a.is_busy e p.busy;
}

no_list : (prods : List Prod) (may : Bool) → ListIs prods [] (fact may false false)
no_list prods may = record { has = one_none (Has prods); busy = one_none (Busy prods) }

pub or_some : (may : Bool) (o : Option Facts) (f : Facts) → or_empty may o ≡ Some f
    → (x : Facts) × (o ≡ Some x) × (fact (may || x.may_be_empty) x.has_terminal x.is_busy ≡ f)
or_some may None f h = cc
or_some may (Some x) f h = (x, refl, cc)

pub scope_some : (a b c : Option Facts) (f : Facts) → scope_of a b c ≡ Some f
    → (x : Facts) × (y : Facts) × (z : Facts) × (a ≡ Some x) × (b ≡ Some y) × (c ≡ Some z) ×
    (fact x.may_be_empty (x.has_terminal || (y.has_terminal || z.has_terminal)) true ≡ f)
scope_some None b c f h = cc
scope_some (Some a) None c f h = cc
scope_some (Some a) (Some b) None f h = cc
scope_some (Some a) (Some b) (Some c) f h = (a, b, c, refl, refl, refl, cc)

zero_test : (m : ℕ) (b : Bool) → nat_eq m 0 ≡ b → Decided b (m ≡ 0)
zero_test m true is = grind (arith, nat_tests)
zero_test m false is = λ e. grind (arith, nat_tests)

seq_made : (items : List Expr) → IsMade (forms.Seq items)
seq_made items = record { terminal = λ t e. cc; action = λ name at e. cc; scope = λ b x h e. cc; name = λ name e. cc }

choice_made : (items : List Expr) → IsMade (forms.Choice items)
choice_made items = record {
  terminal = λ t e. cc;
  action = λ name at e. cc;
  scope = λ b x h e. cc;
  name = λ name e.
      cc;
}

star_made : (d : Expr) → IsMade (forms.Star d)
star_made d = record { terminal = λ t e. cc; action = λ name at e. cc; scope = λ b x h e. cc; name = λ name e. cc }

plus_made : (d : Expr) → IsMade (forms.Plus d)
plus_made d = record { terminal = λ t e. cc; action = λ name at e. cc; scope = λ b x h e. cc; name = λ name e. cc }

opt_made : (d : Expr) → IsMade (forms.Opt d)
opt_made d = record { terminal = λ t e. cc; action = λ name at e. cc; scope = λ b x h e. cc; name = λ name e. cc }

hold_made : (s : SpecTerm) (d : Expr) → IsMade (forms.Hold s d)
hold_made s d = record { terminal = λ t e. cc; action = λ name at e. cc; scope = λ b x h e. cc; name = λ name e. cc }

repeat_made : (d : Expr) (m n : ℕ) → IsMade (forms.Repeat d m n)
repeat_made d m n = record {
  terminal = λ t e. cc;
  action = λ name at e. cc;
  scope = λ b x h e. cc;
  name = λ name e.
      cc;
}

empty_made : IsMade forms.Empty
empty_made = record { terminal = λ t e. cc; action = λ name at e. cc; scope = λ b x h e. cc; name = λ name e. cc }

terminal_is : (prods : List Prod) (t : SpecTerm) → FactsAre prods (forms.Terminal t) (fact false true false)
terminal_is prods t = record {
  may = λ may. no_may may;
  has = (t, Itself);
  busy = λ busy. one_none (Busy prods) (elim busy [
    | inl h ↦ action_down prods (forms.Terminal t) (λ name at e. cc) (λ
        name e. cc) h
    | inr h ↦ scope_down prods (forms.Terminal t) (λ b x h e. cc) (λ name e. cc) h
  ]);
}
  where
    no_may : MayBeEmpty prods (forms.Terminal t) → ⊥
    no_may may = elim may [ ]

action_is : (prods : List Prod) (name : List ℕ) (at : Span)
    → FactsAre prods (forms.Action name at) (fact true false true)
action_is prods name at = record {
  may = ActionMay;
  has = λ has. one_none (Has prods) (has_down prods (forms.Action name at) (λ t e. cc) (λ name e. cc) has);
  busy = inl (name, at, Itself);
}

seq_is : (prods : List Prod) (items : List Expr) (f : Facts) → AllAre prods items f → FactsAre prods (forms.Seq items) f
seq_is prods items f all =
    made_of prods (forms.Seq items) f (seq_made items) all.list
    (moved f.may_be_empty (AllMayBe prods items) (MayBeEmpty prods (forms.Seq items)) (λ m. AllMay m)
    (λ m. back m) all.may)
  where
    back : MayBeEmpty prods (forms.Seq items) → AllMayBe prods items
    back (AllMay m) = m

choice_is : (prods : List Prod) (known : List ℕ → Option Facts) (items : List Expr)
    → ((x : Expr) → Contains items x → Sound prods known x) → (f : Facts)
    → choice_of items (any_facts known items) ≡ Some f → FactsAre prods (forms.Choice items) f
choice_is prods known [] each f h =
    let same : fact true false false ≡ f = cc in let P : Facts → Type 0 = FactsAre prods (forms.Choice []) in
    subst P same (made_of prods (forms.Choice []) (fact true false false) (choice_made []) (no_list prods true) NoneMay)
choice_is prods known (x ∷ items) each f h =
    let any = any_is prods known (x ∷ items) each f h in
    made_of prods (forms.Choice (x ∷ items)) f (choice_made (x ∷ items)) any.list
    (moved f.may_be_empty (One (May prods) (x ∷ items)) (MayBeEmpty prods (forms.Choice (x ∷ items)))
    (λ o. there o) (λ m. back m) any.may)
  where
    there : One (May prods) (x ∷ items) → MayBeEmpty prods (forms.Choice (x ∷ items))
    there (ByOne here m) = SomeMay here m

    back : MayBeEmpty prods (forms.Choice (x ∷ items)) → One (May prods) (x ∷ items)
    back (SomeMay here m) = ByOne here m

plus_is : (prods : List Prod) (e : Expr) (a : Facts) → FactsAre prods (form e) a → FactsAre prods (forms.Plus e) a
plus_is prods e a p = made_of prods (forms.Plus e) a (plus_made e) (list_of_one prods e a a.may_be_empty p)
    (moved a.may_be_empty (May prods e) (MayBeEmpty prods (forms.Plus e)) (λ m. PlusMay m) (λ m. back m) p.may)
  where
    back : MayBeEmpty prods (forms.Plus e) → May prods e
    back (PlusMay m) = m

hold_is : (prods : List Prod) (t : SpecTerm) (e : Expr) (a : Facts) → FactsAre prods (form e) a
    → FactsAre prods (forms.Hold t e) a
hold_is prods t e a p = made_of prods (forms.Hold t e) a (hold_made t e) (list_of_one prods e a a.may_be_empty p)
    (moved a.may_be_empty (May prods e) (MayBeEmpty prods (forms.Hold t e)) (λ m. HoldMay m) (λ m. back m) p.may)
  where
    back : MayBeEmpty prods (forms.Hold t e) → May prods e
    back (HoldMay m) = m

repeat_is : (prods : List Prod) (e : Expr) (m n : ℕ) (a : Facts) → FactsAre prods (form e) a
    → FactsAre prods (forms.Repeat e m n) (fact (nat_eq m 0 || a.may_be_empty) a.has_terminal a.is_busy)
repeat_is prods e m n a p =
    made_of prods (forms.Repeat e m n) (fact (nat_eq m 0 || a.may_be_empty) a.has_terminal a.is_busy)
    (repeat_made e m n) (list_of_one prods e a (nat_eq m 0 || a.may_be_empty) p)
    (either_way (nat_eq m 0) a.may_be_empty (m ≡ 0) (May prods e) (MayBeEmpty prods (forms.Repeat e m n))
    (zero_test m (nat_eq m 0) refl) p.may (λ z. NoCopyMay z) (λ c. CopiesMay c) (λ r. split r))
  where
    split : MayBeEmpty prods (forms.Repeat e m n) → (m ≡ 0) ⊎ May prods e
    split (NoCopyMay z) = inl z
    split (CopiesMay c) = inr c

scope_is : (prods : List Prod) (e x h : Expr) (a b c : Facts) → FactsAre prods (form e) a → FactsAre prods (form x) b
    → FactsAre prods (form h) c
    → FactsAre prods (forms.Scope e x h) (fact a.may_be_empty (a.has_terminal || (b.has_terminal || c.has_terminal))
    true)
scope_is prods e x h a b c p q r = record {
  may = moved a.may_be_empty (May prods e) (MayBeEmpty prods (forms.Scope e x h)) (λ m. ScopeMay m) (λ m. back m) p.may;
  has = moved (a.has_terminal || (b.has_terminal || c.has_terminal)) (One (Has prods) (e ∷ x ∷ h ∷ []))
      (HasTerminal prods (forms.Scope e x h))
      (has_up prods (forms.Scope e x h)) (has_down prods (forms.Scope e x h) (λ t e. cc) (λ name e. cc)) three;
  busy = inr (e, x, h, Itself);
}
  where
    back : MayBeEmpty prods (forms.Scope e x h) → May prods e
    back (ScopeMay m) = m

    two : Decided (b.has_terminal || c.has_terminal) (One (Has prods) (x ∷ h ∷ []))
    two = either_way b.has_terminal c.has_terminal (Has prods x) (One (Has prods) (h ∷ []))
        (One (Has prods) (x ∷ h ∷ [])) q.has (one_of (Has prods) c.has_terminal h r.has)
        (one_first (Has prods) x (h ∷ [])) (one_later (Has prods) x (h ∷ [])) (one_split (Has prods) x (h ∷ []))

    three : Decided (a.has_terminal || (b.has_terminal || c.has_terminal)) (One (Has prods) (e ∷ x ∷ h ∷ []))
    three = either_way a.has_terminal (b.has_terminal || c.has_terminal) (Has prods e) (One (Has prods) (x ∷ h ∷ []))
        (One (Has prods) (e ∷ x ∷ h ∷ [])) p.has two (one_first (Has prods) e (x ∷ h ∷ []))
        (one_later (Has prods) e (x ∷ h ∷ [])) (one_split (Has prods) e (x ∷ h ∷ []))

kind_is : (prods : List Prod) (known : List ℕ → Option Facts) → Knows prods known → (k : kind.Kind)
    → ((x : Expr) → Contains (parts (form_of k)) x → Sound prods known x) → (f : Facts) → kind_facts known k ≡ Some f
    → FactsAre prods (form_of k) f
kind_is prods known knows kind.Empty each f h =
    let same : fact true false false ≡ f = cc in let P : Facts → Type 0 = FactsAre prods forms.Empty in
    subst P same (made_of prods forms.Empty (fact true false false) empty_made (no_list prods true) EmptyMay)
kind_is prods known knows (kind.Terminal t) each f h =
    let same : fact false true false ≡ f = cc in let P : Facts
    → Type 0 = FactsAre prods (forms.Terminal t) in subst P same (terminal_is prods t)
kind_is prods known knows (kind.Action name at) each f h =
    let same : fact true false true ≡ f = cc in let P : Facts
    → Type 0 = FactsAre prods (forms.Action name at) in subst P same (action_is prods name at)
kind_is prods known knows (kind.Seq' n row) each f h = seq_is prods _ f
    (all_are prods known _ each f (sym (row_all_is known _ row) ∙ h))
kind_is prods known knows (kind.Choice' n row) each f h = choice_is prods known _ each f
    (ap (choice_of _) (sym (row_any_is known _ row)) ∙ h)
kind_is prods known knows (kind.Star' p s e) each f h =
    let d = forms.expr_of s e in let some = or_some true (kind_facts known e) f h in let a = some.0 in let P : Facts
    → Type 0 = FactsAre prods (forms.Star d) in
    subst P some.2 (made_of prods (forms.Star d) (fact true a.has_terminal a.is_busy) (star_made d)
    (list_of_one prods d a true (each d (first_item d []) a some.1)) StarMay)
kind_is prods known knows (kind.Plus' p s e) each f h = let d = forms.expr_of s e in plus_is prods d f
    (each d (first_item d []) f h)
kind_is prods known knows (kind.Opt' p s e) each f h =
    let d = forms.expr_of s e in let some = or_some true (kind_facts known e) f h in let a = some.0 in let P : Facts
    → Type 0 = FactsAre prods (forms.Opt d) in
    subst P some.2 (made_of prods (forms.Opt d) (fact true a.has_terminal a.is_busy) (opt_made d)
    (list_of_one prods d a true (each d (first_item d []) a some.1)) OptMay)
kind_is prods known knows (kind.Hold' t p s e) each f h = let d = forms.expr_of s e in hold_is prods t d f
    (each d (first_item d []) f h)
kind_is prods known knows (kind.Scope' p s e q s' x r s'' y) each f h =
    let b = forms.expr_of s e in let c = forms.expr_of s' x in let d = forms.expr_of s'' y in
    let some = scope_some (kind_facts known e) (kind_facts known x) (kind_facts known y) f h in let P : Facts
    → Type 0 = FactsAre prods (forms.Scope b c d) in
    subst P some.6 (scope_is prods b c d some.0 some.1 some.2 (each b (first_item b (c ∷ d ∷ [])) some.0 some.3)
    (each c (later_item b (c ∷ d ∷ []) (first_item c (d ∷ []))) some.1 some.4)
    (each d (later_item b (c ∷ d ∷ []) (later_item c (d ∷ []) (first_item d []))) some.2 some.5))
kind_is prods known knows (kind.Name name) each f h = knows name f h
kind_is prods known knows (kind.Repeat' p s e m n) each f h =
    let d = forms.expr_of s e in let some = or_some (nat_eq m 0) (kind_facts known e) f h in let P : Facts
    → Type 0 = FactsAre prods (forms.Repeat d m n) in
    subst P some.2 (repeat_is prods d m n some.0 (each d (first_item d []) some.0 some.1))

-- the facts that are found are true
pub facts_are : (prods : List Prod) (known : List ℕ → Option Facts) → Knows prods known → (e : Expr) (f : Facts)
    → expr_facts known e ≡ Some f → FactsAre prods (form e) f
facts_are prods known knows = every (Sound prods known) (λ e each f h. kind_is prods known knows e.kind each f h)

-- and so are those of a production whose body has them
pub named_is : (prods : List Prod) (name : List ℕ) (e : Expr) (f : Facts) → body_of prods name ≡ Some e
    → FactsAre prods (form e) f → FactsAre prods (forms.Name name) f
named_is prods name e f is p = record {
  may = moved f.may_be_empty (May prods e) (MayBeEmpty prods (forms.Name name)) (λ m. NameMay is m) (λ m. may_back m)
      p.may;
  has = moved f.has_terminal (Has prods e) (HasTerminal prods (forms.Name name)) (λ h. has_there h) (λ h. has_back h)
      p.has;
  busy = moved f.is_busy (Busy prods e) (IsBusy prods (forms.Name name)) (λ b. busy_there b) (λ b. busy_back b) p.busy;
}
  where
    same_body : (d : Expr) → body_of prods name ≡ Some d → d ≡ e
    same_body d other = let h : Some d ≡ Some e = sym other ∙ is in cc

    may_back : MayBeEmpty prods (forms.Name name) → May prods e
    may_back (NameMay {e = d} other m) = let P : Expr → Type 0 = May prods in subst P (same_body d other) m
    may_back (UnknownMay none) = cc

    has_there : Has prods e → HasTerminal prods (forms.Name name)
    has_there (t, lies) = (t, InProd is lies)

    has_back : HasTerminal prods (forms.Name name) → Has prods e
    has_back (t, InPart here lies) = absurd (no_item here)
    has_back (t, InProd {e = d} other lies) = let P : Expr → Type 0 = Has prods in subst P (same_body d other) (t, lies)

    busy_there : Busy prods e → IsBusy prods (forms.Name name)
    busy_there (inl (action, at, lies)) = inl (action, at, InProd is lies)
    busy_there (inr (b, x, h, lies)) = inr (b, x, h, InProd is lies)

    busy_back : IsBusy prods (forms.Name name) → Busy prods e
    busy_back (inl (action, at, InPart here lies)) = absurd (no_item here)
    busy_back (inl (action, at, InProd {e = d} other lies)) = let P : Expr
        → Type 0 = Busy prods in subst P (same_body d other) (inl (action, at, lies))
    busy_back (inr (b, x, h, InPart here lies)) = absurd (no_item here)
    busy_back (inr (b, x, h, InProd {e = d} other lies)) = let P : Expr
        → Type 0 = Busy prods in subst P (same_body d other) (inr (b, x, h, lies))
