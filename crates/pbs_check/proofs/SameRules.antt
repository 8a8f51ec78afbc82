-- The rules, whatever the places of the boxes.
use Rattle.std.proofs.Common.{◌≡◌, ℕ, List, ◌++◌, map, Result, Ok, Err, refl, sym, ap, subst}
use Rattle.std.specs.Prelude.{Contains, ◌↔◌}
use Rattle.pbs_base.specs.declared.refusal.Span.{Span}
use Rattle.pbs_base.specs.declared.refusal.Refusal.{Refusal}
use Rattle.pbs_ast.specs.declared.syntax.SpecTerm.{SpecTerm}
use Rattle.pbs_ast.specs.declared.syntax.Expr.{Expr}
use Rattle.pbs_ast.specs.declared.syntax.Prod.{Prod}
use Rattle.pbs_ast.specs.declared.syntax.Spec.{Spec}
use Rattle.pbs_ast.specs.Bare.{bare, bare_expr, bare_prod}
use Rattle.pbs_names.specs.Forms.{Form, Star, Plus, Scope, Terminal, Action, Repeat, form, Stands}
use Rattle.pbs_names.specs.Reach.{LiesIn, MayBeEmpty, HasTerminal, HasAction, HasScope}
use Rattle.pbs_names.specs.StarsAndScopes.{Rule9, EmptyStar, EmptyPlus, Rule10, EmptyTrap, ActionInTrap, ScopeInTrap}
use Rattle.pbs_names.specs.StarsAndScopes.{NoTerminal}
use Rattle.pbs_check.specs.declared.fail.Check.{Check}
use Rattle.pbs_check.specs.declared.fail.Check.TheVariants as answers
use Rattle.pbs_check.specs.declared.named.Named.{Named}
use Rattle.pbs_check.specs.declared.uses.Wanted.{Wanted}
use Rattle.pbs_check.specs.declared.uses.Wanted.TheVariants as wanted
use Rattle.pbs_check.specs.Checked.{IsBroken, By5, By6, By7, By8, By9, By10, By11, By18, By19, IsFirst, Checks}
use Rattle.pbs_check.specs.Declaring.{Rule5, DeclaredTwice, ListedTwice, Rule11, TooManyInputs, TooManyActions}
use Rattle.pbs_check.specs.Declaring.{TooManyLevels, Twice, declared_inputs, declared_actions, declared_levels}
use Rattle.pbs_check.specs.Declaring.{declared_names}
use Rattle.pbs_check.specs.Recursion.{Rule8, Recursive, Reaches}
use Rattle.pbs_check.specs.Using.{Use, IsUse, InExpr, InLevel, IsDeclared, IsKind, Leaf, EqualLeaf, Rule6, NotDeclared}
use Rattle.pbs_check.specs.Using.{Rule7, WrongKind, Rule18, TooLarge, Rule19, WrongCopies}
use Rattle.pbs_check.proofs.Alike.{FormsAlike, Terminals, Actions, Stars, Pluses, Scopes, Repeats, forms_alike}
use Rattle.pbs_check.proofs.Alike.{item_alike, lies_alike, may_alike}
use Rattle.pbs_check.proofs.AlikeUses.{with_exprs, stands_alike, form_leaves_alike, spans_alike, own_uses_alike}
use Rattle.pbs_check.proofs.AlikeUses.{declared_alike, names_alike, uses_alike, reaches_alike}
use Rattle.pbs_ast.proofs.BareTwice.{expr_twice, prods_twice}

-- ---- forms alike to those of which the rules speak
star_of : {b : Expr} {g : Form} → FormsAlike (Star b) g → (c : Expr) × (g ≡ Star c) × (bare_expr b ≡ bare_expr c)
star_of (Stars {d = c} p) = (c, refl, p)

plus_of : {b : Expr} {g : Form} → FormsAlike (Plus b) g → (c : Expr) × (g ≡ Plus c) × (bare_expr b ≡ bare_expr c)
plus_of (Pluses {d = c} p) = (c, refl, p)

record IsScopeOf (b x : Expr) (g : Form) : Type 0 where
  body : Expr
  trap : Expr
  after : Expr
  is : g ≡ Scope body trap after
  body_is : bare_expr b ≡ bare_expr body
  trap_is : bare_expr x ≡ bare_expr trap

scope_of : {b x h : Expr} {g : Form} → FormsAlike (Scope b x h) g → IsScopeOf b x g
scope_of (Scopes {d = c} {y = y} {g = k} p q r) =
    record { body = c; trap = y; after = k; is = refl; body_is = p; trap_is = q }

repeat_of : {b : Expr} {m n : ℕ} {g : Form} → FormsAlike (Repeat b m n) g → (c : Expr) × (g ≡ Repeat c m n)
repeat_of (Repeats {d = c} p) = (c, refl)

terminal_lies : {qs : List Prod} {t : SpecTerm} {c g : Form} → LiesIn qs c g → FormsAlike (Terminal t) c
    → HasTerminal qs g
terminal_lies lies (Terminals {u = u} p) = (u, lies)

action_lies : {qs : List Prod} {name : List ℕ} {at : Span} {c g : Form} → LiesIn qs c g
    → FormsAlike (Action name at) c → HasAction qs g
action_lies lies (Actions {name = name} {at = at}) = (name, at, lies)

scope_lies : {qs : List Prod} {b x h : Expr} {c g : Form} → LiesIn qs c g → FormsAlike (Scope b x h) c
    → HasScope qs g
scope_lies lies (Scopes {d = d} {y = y} {g = k} p q r) = (d, y, k, lies)

-- with other productions and another main that are alike, the same rules are broken
module _ (spec : Spec) (ps qs : List Prod) (m n : Expr) (same : map bare_prod ps ≡ map bare_prod qs)
    (same_main : bare_expr m ≡ bare_expr n) where
  abbrev old : Spec
  old = with_exprs spec ps m

  abbrev new : Spec
  new = with_exprs spec qs n

  -- where an expression of some form stands, one of an alike form stands in the other
  found_form : {e : Expr} (f : Form) → Stands old e → form e ≡ f
      → (d : Expr) × Stands new d × FormsAlike f (form d) × (e.span ≡ d.span)
  found_form {e} f stands is =
      let there = stands_alike spec ps qs m n same same_main stands in
      let d = there.0 in
      let P : Form → Type 0 = λ g. FormsAlike g (form d) in
      (d, there.1, subst P is (forms_alike e d there.2), spans_alike e d there.2)

  -- ---- rules 5 and 11, which look at declarations
  declared_same : declared_names old ≡ declared_names new
  declared_same =
      ap (λ l. declared_inputs spec.inputs ++ (declared_actions spec.actions ++ (declared_levels spec.levels ++ l)))
      (declared_alike ps qs same)

  rule_5 : {span : Span} → Rule5 old span → Rule5 new span
  rule_5 {span} (DeclaredTwice twice) =
      let P : List Named → Type 0 = λ l. Twice l span in DeclaredTwice (subst P declared_same twice)
  rule_5 (ListedTwice here twice) = ListedTwice here twice

  rule_11 : {span : Span} → Rule11 old span → Rule11 new span
  rule_11 (TooManyInputs i is within over) = TooManyInputs i is within over
  rule_11 (TooManyActions is) = TooManyActions is
  rule_11 (TooManyLevels is) = TooManyLevels is

  -- ---- rules 6, 7, 18 and 19, which look at uses
  use_alike : {u : Use} → IsUse old u → IsUse new u
  use_alike (InExpr {e = e} {u = u} stands here) =
      let there = stands_alike spec ps qs m n same same_main stands in
      let P : List Use → Type 0 = λ l. Contains l u in
      InExpr there.1 (subst P (own_uses_alike e there.0 there.2) here)
  use_alike (InLevel here set) = InLevel here set

  declared_to : (name : List ℕ) → IsDeclared old name → IsDeclared new name
  declared_to name here =
      let P : List Named → Type 0 = λ l. Contains (map (λ (x : Named). x.name) l) name in subst P declared_same here

  declared_from : (name : List ℕ) → IsDeclared new name → IsDeclared old name
  declared_from name here =
      let P : List Named → Type 0 = λ l. Contains (map (λ (x : Named). x.name) l) name in
      subst P (sym declared_same) here

  kind_from : (wants : Wanted) (name : List ℕ) → IsKind new wants name → IsKind old wants name
  kind_from wanted.Input name here = here
  kind_from wanted.Bus name here = here
  kind_from wanted.Action name here = here
  kind_from wanted.Production name here =
      let P : List (List ℕ) → Type 0 = λ l. Contains l name in subst P (sym (names_alike ps qs same)) here

  rule_6 : {span : Span} → Rule6 old span → Rule6 new span
  rule_6 (NotDeclared {u = u} use_is no_name) =
      NotDeclared (use_alike use_is) (λ here. no_name (declared_from u.name here))

  rule_7 : {span : Span} → Rule7 old span → Rule7 new span
  rule_7 (WrongKind {u = u} use_is here no_kind) =
      WrongKind (use_alike use_is) (declared_to u.name here) (λ kind. no_kind (kind_from u.wants u.name kind))

  rule_18 : {span : Span} → Rule18 old span → Rule18 new span
  rule_18 (TooLarge {e = e} {name = name} {span = span} {at = at} {number = number} stands here is large) =
      let there = stands_alike spec ps qs m n same same_main stands in
      let P : List Leaf → Type 0 = λ l. Contains l (EqualLeaf name span number at) in
      let leaf = subst P (form_leaves_alike (forms_alike e there.0 there.2)) here in
      TooLarge there.1 leaf is large

  rule_19 : {span : Span} → Rule19 old span → Rule19 new span
  rule_19 (WrongCopies {e = e} {b = b} {m = least} {n = most} stands is wrong) =
      let d = found_form (Repeat b least most) stands is in
      let P : Span → Type 0 = Rule19 new in
      subst P (sym d.3) (WrongCopies d.1 (repeat_of d.2).1 wrong)

  -- ---- rule 8, which follows uses
  rule_8 : {span : Span} → Rule8 old span → Rule8 new span
  rule_8 (Recursive {p = p} {name = name} {span = span} here uses reaches) =
      let found = item_alike bare_prod ps qs p same here in
      let q = found.0 in
      let bodies = ap (λ (r : Prod). r.body) found.2 in
      let Goal : List ℕ → Type 0 = λ to. Reaches qs to name in
      Recursive found.1 (uses_alike p.body q.body name bodies uses)
      (subst Goal (ap (λ (r : Prod). r.name) found.2) (reaches_alike ps qs same reaches))

  -- ---- rules 9 and 10, which look at what may be empty and at what lies where
  may_be : (e d : Expr) → bare_expr e ≡ bare_expr d → MayBeEmpty ps (form e) → MayBeEmpty qs (form d)
  may_be e d alike may = may_alike ps qs same may (forms_alike e d alike)

  rule_9 : {span : Span} → Rule9 old span → Rule9 new span
  rule_9 (EmptyStar {b = b} stands is may) =
      let d = found_form (Star b) stands is in
      let c = star_of d.2 in
      let P : Span → Type 0 = Rule9 new in
      subst P (sym (spans_alike b c.0 c.2)) (EmptyStar d.1 c.1 (may_be b c.0 c.2 may))
  rule_9 (EmptyPlus {b = b} stands is may) =
      let d = found_form (Plus b) stands is in
      let c = plus_of d.2 in
      let P : Span → Type 0 = Rule9 new in
      subst P (sym (spans_alike b c.0 c.2)) (EmptyPlus d.1 c.1 (may_be b c.0 c.2 may))

  has_action : (e d : Expr) → bare_expr e ≡ bare_expr d → HasAction ps (form e) → HasAction qs (form d)
  has_action e d alike has =
      let found = lies_alike ps qs same has.2 (forms_alike e d alike) in action_lies found.1 found.2

  has_scope : (e d : Expr) → bare_expr e ≡ bare_expr d → HasScope ps (form e) → HasScope qs (form d)
  has_scope e d alike has =
      let found = lies_alike ps qs same has.3 (forms_alike e d alike) in scope_lies found.1 found.2

  had_terminal : (e d : Expr) → bare_expr e ≡ bare_expr d → HasTerminal qs (form d) → HasTerminal ps (form e)
  had_terminal e d alike has =
      let found = lies_alike qs ps (sym same) has.1 (forms_alike d e (sym alike)) in terminal_lies found.1 found.2

  rule_10 : {span : Span} → Rule10 old span → Rule10 new span
  rule_10 (EmptyTrap {b = b} {x = x} {h = h} stands is may) =
      let d = found_form (Scope b x h) stands is in
      let c = scope_of d.2 in
      let P : Span → Type 0 = Rule10 new in
      subst P (sym d.3) (EmptyTrap d.1 c.is (may_be x c.trap c.trap_is may))
  rule_10 (ActionInTrap {b = b} {x = x} {h = h} stands is has) =
      let d = found_form (Scope b x h) stands is in
      let c = scope_of d.2 in
      let P : Span → Type 0 = Rule10 new in
      subst P (sym d.3) (ActionInTrap d.1 c.is (has_action x c.trap c.trap_is has))
  rule_10 (ScopeInTrap {b = b} {x = x} {h = h} stands is has) =
      let d = found_form (Scope b x h) stands is in
      let c = scope_of d.2 in
      let P : Span → Type 0 = Rule10 new in
      subst P (sym d.3) (ScopeInTrap d.1 c.is (has_scope x c.trap c.trap_is has))
  rule_10 (NoTerminal {b = b} {x = x} {h = h} stands is none) =
      let d = found_form (Scope b x h) stands is in
      let c = scope_of d.2 in
      let P : Span → Type 0 = Rule10 new in
      subst P (sym d.3) (NoTerminal d.1 c.is (λ has. none (had_terminal b c.body c.body_is has)))

  broken_alike : {rule : ℕ} {span : Span} → IsBroken old rule span → IsBroken new rule span
  broken_alike (By5 broken) = By5 (rule_5 broken)
  broken_alike (By6 broken) = By6 (rule_6 broken)
  broken_alike (By7 broken) = By7 (rule_7 broken)
  broken_alike (By8 broken) = By8 (rule_8 broken)
  broken_alike (By9 broken) = By9 (rule_9 broken)
  broken_alike (By10 broken) = By10 (rule_10 broken)
  broken_alike (By11 broken) = By11 (rule_11 broken)
  broken_alike (By18 broken) = By18 (rule_18 broken)
  broken_alike (By19 broken) = By19 (rule_19 broken)

pub same_broken : (spec : Spec) (rule : ℕ) (span : Span) → IsBroken spec rule span ↔ IsBroken (bare spec) rule span
same_broken spec rule span =
    let ps = spec.prods in let qs = map bare_prod ps in
    let m = spec.main in let n = bare_expr m in (
      broken_alike spec ps qs m n (sym (prods_twice ps)) (sym (expr_twice m)),
      broken_alike spec qs ps n m (prods_twice ps) (expr_twice m),
    )

broken_back : (spec : Spec) (rule : ℕ) (span : Span) → IsBroken (bare spec) rule span ↔ IsBroken spec rule span
broken_back spec rule span = let both = same_broken spec rule span in (both.1, both.0)

-- where the same is broken, the same rule is the first
first_of_both : (spec other : Spec) (r : Refusal)
    → ((rule : ℕ) (span : Span) → IsBroken spec rule span ↔ IsBroken other rule span) → IsFirst spec r
    → IsFirst other r
first_of_both spec other r both is = record {
  subject = is.subject;
  broken = (both r.rule r.span).0 is.broken;
  first = λ rule span below broken. is.first rule span below ((both rule span).1 broken);
  least = λ span broken. is.least span ((both r.rule span).1 broken);
}

checks_alike : (spec other : Spec) (result : Result (Unit {0}) Check)
    → ((rule : ℕ) (span : Span) → IsBroken spec rule span ↔ IsBroken other rule span) → Checks spec result
    → Checks other result
checks_alike spec other (Ok done) both none =
    record { unbroken = λ rule span broken. none.unbroken rule span ((both rule span).1 broken) }
checks_alike spec other (Err (answers.Refused r)) both is = first_of_both spec other r both is
checks_alike spec other (Err answers.Memory) both done = tt

pub same_first : (spec : Spec) (r : Refusal) → IsFirst spec r ↔ IsFirst (bare spec) r
same_first spec r = (
  first_of_both spec (bare spec) r (same_broken spec),
  first_of_both (bare spec) spec r (broken_back spec),
)

pub same_checks : (spec : Spec) (result : Result (Unit {0}) Check) → Checks spec result ↔ Checks (bare spec) result
same_checks spec result = (
  checks_alike spec (bare spec) result (same_broken spec),
  checks_alike (bare spec) spec result (broken_back spec),
)
