-- Expressions that differ by where their boxes lie alone, and what holds of both.
use Rattle.std.proofs.Common.{◌≡◌, ℕ, zero, suc, List, [], ◌∷◌, map, Option, Some, None, refl, sym, ap, ap₂, subst, ◌∙◌}
use Rattle.std.proofs.Common.{arith}
use Rattle.std.specs.Prelude.{Contains}
use Rattle.std.specs.Option.{option_map}
use Rattle.pbs_base.specs.declared.refusal.Span.{Span}
use Rattle.pbs_ast.specs.declared.syntax.SpecTerm.{SpecTerm}
use Rattle.pbs_ast.specs.declared.syntax.Expr.{Expr}
use Rattle.pbs_ast.specs.declared.syntax.Prod.{Prod}
use Rattle.pbs_ast.specs.Bare.{bare_term, bare_expr, bare_prod}
use Rattle.pbs_names.specs.Naming.{body_of}
use Rattle.pbs_names.specs.Forms.{Form, form, parts, Empty, Terminal, Action, Seq, Choice, Star, Plus, Opt, Hold, Scope}
use Rattle.pbs_names.specs.Forms.{Name, Repeat}
use Rattle.pbs_names.specs.Reach.{LiesIn, Itself, InPart, InProd, MayBeEmpty, EmptyMay, ActionMay, AllMay, SomeMay}
use Rattle.pbs_names.specs.Reach.{NoneMay, StarMay, PlusMay, OptMay, HoldMay, ScopeMay, NameMay, UnknownMay, NoCopyMay}
use Rattle.pbs_names.specs.Reach.{CopiesMay}
use Rattle.pbs_names.proofs.BareForms.{bare_form, form_bare, body_bare}
use Rattle.pbs_ast.proofs.BareTwice.{term_twice, expr_twice, all_twice}

-- forms of one kind with alike parts
pub data FormsAlike : Form → Form → Type 0 where
  Empties : FormsAlike Empty Empty
  Terminals : {t u : SpecTerm} → bare_term t ≡ bare_term u → FormsAlike (Terminal t) (Terminal u)
  Actions : {name : List ℕ} {at : Span} → FormsAlike (Action name at) (Action name at)
  Seqs : {xs ys : List Expr} → map bare_expr xs ≡ map bare_expr ys → FormsAlike (Seq xs) (Seq ys)
  Choices : {xs ys : List Expr} → map bare_expr xs ≡ map bare_expr ys → FormsAlike (Choice xs) (Choice ys)
  Stars : {e d : Expr} → bare_expr e ≡ bare_expr d → FormsAlike (Star e) (Star d)
  Pluses : {e d : Expr} → bare_expr e ≡ bare_expr d → FormsAlike (Plus e) (Plus d)
  Opts : {e d : Expr} → bare_expr e ≡ bare_expr d → FormsAlike (Opt e) (Opt d)
  Holds : {t u : SpecTerm} {e d : Expr} → bare_term t ≡ bare_term u → bare_expr e ≡ bare_expr d
      → FormsAlike (Hold t e) (Hold u d)
  Scopes : {e d x y h g : Expr} → bare_expr e ≡ bare_expr d → bare_expr x ≡ bare_expr y → bare_expr h ≡ bare_expr g
      → FormsAlike (Scope e x h) (Scope d y g)
  Names : {name : List ℕ} → FormsAlike (Name name) (Name name)
  Repeats : {e d : Expr} {m n : ℕ} → bare_expr e ≡ bare_expr d → FormsAlike (Repeat e m n) (Repeat d m n)

-- a form and the same one with its boxes at one place
to_bare : (f : Form) → FormsAlike f (bare_form f)
to_bare Empty = Empties
to_bare (Terminal t) = Terminals (sym (term_twice t))
to_bare (Action name at) = Actions
to_bare (Seq items) = Seqs (sym (all_twice items))
to_bare (Choice items) = Choices (sym (all_twice items))
to_bare (Star e) = Stars (sym (expr_twice e))
to_bare (Plus e) = Pluses (sym (expr_twice e))
to_bare (Opt e) = Opts (sym (expr_twice e))
to_bare (Hold t e) = Holds (sym (term_twice t)) (sym (expr_twice e))
to_bare (Scope e x h) = Scopes (sym (expr_twice e)) (sym (expr_twice x)) (sym (expr_twice h))
to_bare (Name name) = Names
to_bare (Repeat e m n) = Repeats (sym (expr_twice e))

joins : {f g h : Form} → FormsAlike f h → FormsAlike g h → FormsAlike f g
joins Empties Empties = Empties
joins (Terminals p) (Terminals q) = Terminals (p ∙ sym q)
joins Actions Actions = Actions
joins (Seqs p) (Seqs q) = Seqs (p ∙ sym q)
joins (Choices p) (Choices q) = Choices (p ∙ sym q)
joins (Stars p) (Stars q) = Stars (p ∙ sym q)
joins (Pluses p) (Pluses q) = Pluses (p ∙ sym q)
joins (Opts p) (Opts q) = Opts (p ∙ sym q)
joins (Holds p p') (Holds q q') = Holds (p ∙ sym q) (p' ∙ sym q')
joins (Scopes p p' p'') (Scopes q q' q'') = Scopes (p ∙ sym q) (p' ∙ sym q') (p'' ∙ sym q'')
joins Names Names = Names
joins (Repeats p) (Repeats q) = Repeats (p ∙ sym q)

pub forms_alike : (e d : Expr) → bare_expr e ≡ bare_expr d → FormsAlike (form e) (form d)
forms_alike e d same =
    let one : bare_form (form d) ≡ bare_form (form e) = sym (form_bare d) ∙ (sym (ap form same) ∙ form_bare e) in
    joins (to_bare (form e)) (subst (FormsAlike (form d)) one (to_bare (form d)))

pub parts_alike : {f g : Form} → FormsAlike f g → map bare_expr (parts f) ≡ map bare_expr (parts g)
parts_alike Empties = refl
parts_alike (Terminals p) = refl
parts_alike Actions = refl
parts_alike (Seqs p) = p
parts_alike (Choices p) = p
parts_alike (Stars p) = ap (λ d. d ∷ []) p
parts_alike (Pluses p) = ap (λ d. d ∷ []) p
parts_alike (Opts p) = ap (λ d. d ∷ []) p
parts_alike (Holds p q) = ap (λ d. d ∷ []) q
parts_alike (Scopes p q r) = ap₂ (λ a b. a ∷ b) p (ap₂ (λ a b. a ∷ b ∷ []) q r)
parts_alike Names = refl
parts_alike (Repeats p) = ap (λ d. d ∷ []) p

-- ---- lists whose items are alike
head_or : {X : Type 0} → X → List X → X
head_or d [] = d
head_or d (x ∷ xs) = x

tail_of : {X : Type 0} → List X → List X
tail_of [] = []
tail_of (x ∷ xs) = xs

heads_same : {X : Type 0} (x y : X) (xs ys : List X) → x ∷ xs ≡ y ∷ ys → x ≡ y
unfolding head_or
heads_same x y xs ys same = ap (head_or x) same

tails_same : {X : Type 0} (x y : X) (xs ys : List X) → x ∷ xs ≡ y ∷ ys → xs ≡ ys
unfolding tail_of
tails_same x y xs ys same = ap tail_of same

-- an item of one list has one alike to it in the other
pub item_alike : {X Y : Type 0} (f : X → Y) (xs ys : List X) (x : X) → map f xs ≡ map f ys → Contains xs x
    → (y : X) × Contains ys y × (f x ≡ f y)
item_alike f [] ys x same (k, below, is) = absurd (omega (arith, below))
item_alike f (z ∷ xs) [] x same here = cc
item_alike f (z ∷ xs) (y ∷ ys) x same (zero, below, is) =
    (y, (zero, omega arith, refl), ap f (sym is) ∙ heads_same (f z) (f y) (map f xs) (map f ys) same)
item_alike f (z ∷ xs) (y ∷ ys) x same (suc k, below, is) =
    let found = item_alike f xs ys x (tails_same (f z) (f y) (map f xs) (map f ys) same)
    (k, omega (arith, below), is) in
    let place = found.1 in
    (found.0, (suc place.0, omega (arith, place.1), place.2), found.2)

none_alike : {X Y : Type 0} (f : X → Y) (ys : List X) → map f [] ≡ map f ys → ys ≡ []
none_alike f [] same = refl
none_alike f (y ∷ ys) same = cc

-- ---- the body of a production
pub bodies_alike : (ps qs : List Prod) (name : List ℕ) → map bare_prod ps ≡ map bare_prod qs
    → option_map bare_expr (body_of ps name) ≡ option_map bare_expr (body_of qs name)
bodies_alike ps qs name same =
    sym (body_bare ps name) ∙ (ap (λ l. body_of l name) same ∙ body_bare qs name)

some_alike : (o : Option Expr) (e : Expr) → Some (bare_expr e) ≡ option_map bare_expr o
    → (d : Expr) × (o ≡ Some d) × (bare_expr e ≡ bare_expr d)
some_alike None e same = cc
some_alike (Some d) e same = (d, refl, cc)

pub body_alike : (ps qs : List Prod) (name : List ℕ) (e : Expr) → map bare_prod ps ≡ map bare_prod qs
    → body_of ps name ≡ Some e → (d : Expr) × (body_of qs name ≡ Some d) × (bare_expr e ≡ bare_expr d)
body_alike ps qs name e same is =
    some_alike (body_of qs name) e (sym (ap (option_map bare_expr) is) ∙ bodies_alike ps qs name same)

gone_alike : (o : Option Expr) → None ≡ option_map bare_expr o → o ≡ None
gone_alike None same = refl
gone_alike (Some d) same = cc

pub no_body_alike : (ps qs : List Prod) (name : List ℕ) → map bare_prod ps ≡ map bare_prod qs
    → body_of ps name ≡ None → body_of qs name ≡ None
no_body_alike ps qs name same is =
    gone_alike (body_of qs name) (sym (ap (option_map bare_expr) is) ∙ bodies_alike ps qs name same)

-- ---- what lies in a form, and what may be empty
module _ (ps qs : List Prod) (same : map bare_prod ps ≡ map bare_prod qs) where
  pub lies_alike : {d f g : Form} → LiesIn ps d f → FormsAlike f g → (c : Form) × LiesIn qs c g × FormsAlike d c
  lies_alike {g = g} Itself alike = (g, Itself, alike)
  lies_alike {g = g} (InPart {f = f} {e = e} here more) alike =
      let x = item_alike bare_expr (parts f) (parts g) e (parts_alike alike) here in
      let found = lies_alike more (forms_alike e x.0 x.2) in
      (found.0, InPart x.1 found.1, found.2)
  lies_alike (InProd {name = name} {e = e} is more) Names =
      let x = body_alike ps qs name e same is in
      let found = lies_alike more (forms_alike e x.0 x.2) in
      (found.0, InProd x.1 found.1, found.2)

  pub may_alike : {f g : Form} → MayBeEmpty ps f → FormsAlike f g → MayBeEmpty qs g
  may_alike EmptyMay Empties = EmptyMay
  may_alike ActionMay Actions = ActionMay
  may_alike (AllMay each) (Seqs {xs = xs} {ys = ys} p) =
      AllMay (λ d here. let x = item_alike bare_expr ys xs d (sym p) here in
      may_alike (each x.0 x.1) (forms_alike x.0 d (sym x.2)))
  may_alike (SomeMay {e = e} here may) (Choices {xs = xs} {ys = ys} p) =
      let x = item_alike bare_expr xs ys e p here in SomeMay x.1 (may_alike may (forms_alike e x.0 x.2))
  may_alike NoneMay (Choices {ys = ys} p) =
      let P : List Expr → Type 0 = λ l. MayBeEmpty qs (Choice l) in subst P (sym (none_alike bare_expr ys p)) NoneMay
  may_alike StarMay (Stars p) = StarMay
  may_alike (PlusMay may) (Pluses {e = e} {d = d} p) = PlusMay (may_alike may (forms_alike e d p))
  may_alike OptMay (Opts p) = OptMay
  may_alike (HoldMay may) (Holds {e = e} {d = d} p q) = HoldMay (may_alike may (forms_alike e d q))
  may_alike (ScopeMay may) (Scopes {e = e} {d = d} p q r) = ScopeMay (may_alike may (forms_alike e d p))
  may_alike (NameMay {name = name} {e = e} is may) Names =
      let x = body_alike ps qs name e same is in NameMay x.1 (may_alike may (forms_alike e x.0 x.2))
  may_alike (UnknownMay {name = name} is) Names = UnknownMay (no_body_alike ps qs name same is)
  may_alike (NoCopyMay is) (Repeats p) = NoCopyMay is
  may_alike (CopiesMay may) (Repeats {e = e} {d = d} p) = CopiesMay (may_alike may (forms_alike e d p))
