-- Rules 6 and 7 are broken where the code finds it.
use Rattle.std.proofs.Common.{◌≡◌, ◌⊎◌, inl, inr, ℕ, Bool, true, false, not, ◌&&◌, List, [], map, Option, Some, None}
use Rattle.std.proofs.Common.{refl, subst}
use Rattle.std.specs.Prelude.{if◌then◌else◌}
use Rattle.std.specs.Option.{is_some}
use Rattle.pbs_base.specs.declared.refusal.Span.{Span}
use Rattle.pbs_ast.specs.declared.syntax.Expr.{Expr}
use Rattle.pbs_ast.specs.declared.syntax.Level.{Level}
use Rattle.pbs_ast.specs.declared.syntax.Set.{Set}
use Rattle.pbs_ast.specs.declared.syntax.Spec.{Spec}
use Rattle.pbs_names.specs.Naming.{input_names, action_names, prod_names}
use Rattle.pbs_names.specs.Numbers.{number_in}
use Rattle.pbs_names.specs.Forms as forms
use Rattle.pbs_names.specs.Forms.{Form, form}
use Rattle.pbs_check.specs.declared.named.Named.{Named}
use Rattle.pbs_check.specs.declared.uses.Wanted.{Wanted}
use Rattle.pbs_check.specs.declared.uses.Wanted.TheVariants as wanted
use Rattle.pbs_check.specs.declared.uses.Look.{Look}
use Rattle.pbs_check.specs.declared.uses.Look.TheVariants as looks
use Rattle.pbs_check.specs.declared.uses.Tables.{Tables}
use Rattle.pbs_check.specs.Declaring.{declared_names}
use Rattle.pbs_check.specs.Least.{span_le, IsLeast, least_by}
use Rattle.pbs_check.specs.Using.{Use, use_of, Leaf, NameLeaf, EqualLeaf, leaves, leaf_use, own_uses, bus_names, IsUse}
use Rattle.pbs_check.specs.Using.{InExpr, InLevel, IsDeclared, IsKind, Rule6, NotDeclared, Rule7, WrongKind}
use Rattle.pbs_check.specs.inner.Walking.{kind_numbers, name_broken, leaf_broken, copies_broken, star_broken}
use Rattle.pbs_check.specs.inner.Walking.{scope_broken, form_broken, own_broken, set_broken, level_broken}
use Rattle.pbs_check.specs.inner.Stages.{IsTables, found_in}
use Rattle.pbs_check.proofs.LeastLemmas.{span_refl, least_either, least_same, least_by_is, least_map, least_one}
use Rattle.pbs_check.proofs.LeastLemmas.{least_of_none, OneOf, ByItem}
use Rattle.pbs_check.proofs.NamedLemmas.{is_in, is_out}
use Rattle.pbs_check.proofs.StandLemmas.{all_exprs, exprs_stand, stands_listed}

abbrev UseIs : Look → Spec → Use → Type 0
UseIs looks.Declared spec u = IsDeclared spec u.name → ⊥
UseIs looks.Kinds spec u = IsDeclared spec u.name × (IsKind spec u.wants u.name → ⊥)
UseIs looks.Numbers spec u = ⊥
UseIs looks.Copies spec u = ⊥
UseIs looks.Stars spec u = ⊥
UseIs looks.Scopes spec u = ⊥

data UseBroken (look : Look) (spec : Spec) (u : Use) (s : Span) : Type 0 where
  At : UseIs look spec u → u.span ≡ s → UseBroken look spec u s

kind_in : (spec : Spec) (tables : Tables) → IsTables spec tables → (w : Wanted) (name : List ℕ)
    → is_some (number_in (kind_numbers tables w) name) ≡ true → IsKind spec w name
kind_in spec tables made wanted.Input name there = is_in (input_names spec.inputs) tables.inputs name made.inputs there
kind_in spec tables made wanted.Bus name there = is_in (bus_names spec.inputs) tables.buses name made.buses there
kind_in spec tables made wanted.Action name there = is_in (action_names spec.actions) tables.actions name made.actions
    there
kind_in spec tables made wanted.Production name there = is_in (prod_names spec.prods) tables.prods name made.prods there

kind_out : (spec : Spec) (tables : Tables) → IsTables spec tables → (w : Wanted) (name : List ℕ)
    → is_some (number_in (kind_numbers tables w) name) ≡ false → IsKind spec w name → ⊥
kind_out spec tables made wanted.Input name there = is_out (input_names spec.inputs) tables.inputs name made.inputs
    there
kind_out spec tables made wanted.Bus name there = is_out (bus_names spec.inputs) tables.buses name made.buses there
kind_out spec tables made wanted.Action name there = is_out (action_names spec.actions) tables.actions name
    made.actions there
kind_out spec tables made wanted.Production name there = is_out (prod_names spec.prods) tables.prods name made.prods
    there

abbrev all_names : Spec → List (List ℕ)
all_names spec = map (λ (n : Named). n.name) (declared_names spec)

at_span : (look : Look) (spec : Spec) (u : Use) (s : Span) → UseBroken look spec u s → span_le u.span s ≡ true
at_span look spec u s (At un is) = let P : Span → Type 0 = λ t. span_le u.span t ≡ true in subst P is (span_refl u.span)

name_is : (spec : Spec) (tables : Tables) → IsTables spec tables
    → (look : Look) (w : Wanted) (name : List ℕ) (span : Span)
    → IsLeast (UseBroken look spec (use_of w name span)) (name_broken look tables w name span)
name_is spec tables made looks.Declared w name span = chosen (is_some (number_in tables.declared name)) refl
  where
    known : {s : Span} → is_some (number_in tables.declared name) ≡ true
        → UseBroken looks.Declared spec (use_of w name span) s → ⊥
    known there (At un is) = un (is_in (all_names spec) tables.declared name made.declared there)

    chosen : (b : Bool) → is_some (number_in tables.declared name) ≡ b
        → IsLeast (UseBroken looks.Declared spec (use_of w name span)) (if b then None else Some span)
    chosen true there = λ s p. known there p
    chosen false there = (
      At (is_out (all_names spec) tables.declared name made.declared there) refl,
      λ s p. at_span
          looks.Declared spec (use_of w name span) s p,
    )
name_is spec tables made looks.Kinds w name span = chosen (is_some (number_in tables.declared name))
    (is_some (number_in (kind_numbers tables w) name)) refl refl
  where
    not_known : {s : Span} → is_some (number_in tables.declared name) ≡ false
        → UseBroken looks.Kinds spec (use_of w name span) s → ⊥
    not_known there (At un is) = is_out (all_names spec) tables.declared name made.declared there un.0

    right_kind : {s : Span} → is_some (number_in (kind_numbers tables w) name) ≡ true
        → UseBroken looks.Kinds spec (use_of w name span) s → ⊥
    right_kind there (At un is) = un.1 (kind_in spec tables made w name there)

    chosen : (b c : Bool) → is_some (number_in tables.declared name) ≡ b
        → is_some (number_in (kind_numbers tables w) name) ≡ c
        → IsLeast (UseBroken looks.Kinds spec (use_of w name span)) (if b && not c then Some span else None)
    chosen false c there kind = λ s p. not_known there p
    chosen true true there kind = λ s p. right_kind kind p
    chosen true false there kind = (
      At (is_in (all_names spec) tables.declared name made.declared there, kind_out spec tables made w name kind)
          refl,
      λ s p. at_span looks.Kinds spec (use_of w name span) s p,
    )
name_is spec tables made looks.Numbers w name span = λ s p. no p
  where
    no : {s : Span} → UseBroken looks.Numbers spec (use_of w name span) s → ⊥
    no (At un is) = un
name_is spec tables made looks.Copies w name span = λ s p. no p
  where
    no : {s : Span} → UseBroken looks.Copies spec (use_of w name span) s → ⊥
    no (At un is) = un
name_is spec tables made looks.Stars w name span = λ s p. no p
  where
    no : {s : Span} → UseBroken looks.Stars spec (use_of w name span) s → ⊥
    no (At un is) = un
name_is spec tables made looks.Scopes w name span = λ s p. no p
  where
    no : {s : Span} → UseBroken looks.Scopes spec (use_of w name span) s → ⊥
    no (At un is) = un

-- the looks at names
abbrev pub AtNames : Look → Type 0
AtNames looks.Declared = Unit {0}
AtNames looks.Kinds = Unit {0}
AtNames looks.Numbers = ⊥
AtNames looks.Copies = ⊥
AtNames looks.Stars = ⊥
AtNames looks.Scopes = ⊥

leaf_is : (spec : Spec) (tables : Tables) → IsTables spec tables → (look : Look) → AtNames look → (leaf : Leaf)
    → IsLeast (UseBroken look spec (leaf_use leaf)) (leaf_broken look tables spec.inputs leaf)
leaf_is spec tables made looks.Declared names (NameLeaf name span) = name_is spec tables made looks.Declared
    wanted.Input name span
leaf_is spec tables made looks.Declared names (EqualLeaf name span number at) = name_is spec tables made
    looks.Declared wanted.Bus name span
leaf_is spec tables made looks.Kinds names (NameLeaf name span) = name_is spec tables made looks.Kinds wanted.Input
    name span
leaf_is spec tables made looks.Kinds names (EqualLeaf name span number at) = name_is spec tables made looks.Kinds
    wanted.Bus name span
leaf_is spec tables made looks.Numbers names leaf = absurd names
leaf_is spec tables made looks.Copies names leaf = absurd names
leaf_is spec tables made looks.Stars names leaf = absurd names
leaf_is spec tables made looks.Scopes names leaf = absurd names

no_copies : (look : Look) → AtNames look → (span : Span) (m n : ℕ) → None ≡ copies_broken look span m n
no_copies looks.Declared names span m n = refl
no_copies looks.Kinds names span m n = refl
no_copies looks.Numbers names span m n = absurd names
no_copies looks.Copies names span m n = absurd names
no_copies looks.Stars names span m n = absurd names
no_copies looks.Scopes names span m n = absurd names

no_star : (look : Look) → AtNames look → (tables : Tables) (b : Expr) → None ≡ star_broken look tables b
no_star looks.Declared names tables b = refl
no_star looks.Kinds names tables b = refl
no_star looks.Numbers names tables b = absurd names
no_star looks.Copies names tables b = absurd names
no_star looks.Stars names tables b = absurd names
no_star looks.Scopes names tables b = absurd names

no_scope : (look : Look) → AtNames look → (tables : Tables) (span : Span) (b x : Expr)
    → None ≡ scope_broken look tables span b x
no_scope looks.Declared names tables span b x = refl
no_scope looks.Kinds names tables span b x = refl
no_scope looks.Numbers names tables span b x = absurd names
no_scope looks.Copies names tables span b x = absurd names
no_scope looks.Stars names tables span b x = absurd names
no_scope looks.Scopes names tables span b x = absurd names

own_is : (spec : Spec) (tables : Tables) → IsTables spec tables → (look : Look) → AtNames look → (e : Expr) (f : Form)
    → IsLeast (OneOf (UseBroken look spec) (own_uses e f)) (form_broken look tables spec.inputs e.span f)
own_is spec tables made look names e forms.Empty = least_of_none (UseBroken look spec)
own_is spec tables made look names e (forms.Terminal t) = least_map (UseBroken look spec) leaf_use
    (leaf_broken look tables spec.inputs) (leaf_is spec tables made look names) (leaves t)
own_is spec tables made look names e (forms.Action name at) = least_one (UseBroken look spec)
    (use_of wanted.Action name at) (name_broken look tables wanted.Action name at)
    (name_is spec tables made look wanted.Action name at)
own_is spec tables made look names e (forms.Seq items) = least_of_none (UseBroken look spec)
own_is spec tables made look names e (forms.Choice items) = least_of_none (UseBroken look spec)
own_is spec tables made look names e (forms.Star b) = let P : Option Span
    → Type 0 = IsLeast (OneOf (UseBroken look spec) []) in subst P (no_star look names tables b)
    (least_of_none (UseBroken look spec))
own_is spec tables made look names e (forms.Plus b) = let P : Option Span
    → Type 0 = IsLeast (OneOf (UseBroken look spec) []) in subst P (no_star look names tables b)
    (least_of_none (UseBroken look spec))
own_is spec tables made look names e (forms.Opt b) = least_of_none (UseBroken look spec)
own_is spec tables made look names e (forms.Hold t b) = least_map (UseBroken look spec) leaf_use
    (leaf_broken look tables spec.inputs) (leaf_is spec tables made look names) (leaves t)
own_is spec tables made look names e (forms.Scope b x h) = let P : Option Span
    → Type 0 = IsLeast (OneOf (UseBroken look spec) []) in subst P (no_scope look names tables e.span b x)
    (least_of_none (UseBroken look spec))
own_is spec tables made look names e (forms.Name name) = least_one (UseBroken look spec)
    (use_of wanted.Production name e.span) (name_broken look tables wanted.Production name e.span)
    (name_is spec tables made look wanted.Production name e.span)
own_is spec tables made look names e (forms.Repeat b m n) =
    let P : Option Span → Type 0 = IsLeast (OneOf (UseBroken look spec) []) in subst P
    (no_copies look names e.span m n) (least_of_none (UseBroken look spec))

-- a use that is broken
data LookBroken (look : Look) (spec : Spec) (s : Span) : Type 0 where
  ByUse : {u : Use} → IsUse spec u → UseBroken look spec u s → LookBroken look spec s

abbrev OwnBroken : Look → Spec → Expr → Span → Type 0
OwnBroken look spec e s = OneOf (UseBroken look spec) (own_uses e (form e)) s

abbrev SetBroken : Look → Spec → Set → Span → Type 0
SetBroken look spec st s = UseBroken look spec (use_of wanted.Action st.action st.span) s

abbrev LevelBroken : Look → Spec → Level → Span → Type 0
LevelBroken look spec l s = OneOf (SetBroken look spec) l.sets s

look_is : (spec : Spec) (tables : Tables) → IsTables spec tables → (look : Look) → AtNames look
    → IsLeast (LookBroken look spec) (found_in look tables spec)
look_is spec tables made look names =
    least_either (OneOf (OwnBroken look spec) (all_exprs spec)) (OneOf (LevelBroken look spec) spec.levels)
    (LookBroken look spec)
    (least_by (own_broken look tables spec.inputs) (all_exprs spec)) (least_by (level_broken look tables) spec.levels)
    (least_by_is (OwnBroken look spec) (own_broken look tables spec.inputs)
    (λ e. own_is spec tables made look names e (form e)) (all_exprs spec))
    (least_by_is (LevelBroken look spec) (level_broken look tables)
    (λ l. least_by_is (SetBroken look spec) (set_broken look tables)
    (λ st. name_is spec tables made look wanted.Action st.action st.span) l.sets) spec.levels)
    (λ s p. of_exprs p) (λ s p. of_levels p) (λ s r. split r)
  where
    of_exprs : {s : Span} → OneOf (OwnBroken look spec) (all_exprs spec) s → LookBroken look spec s
    of_exprs (ByItem {x = e} here (ByItem there broken)) = ByUse (InExpr (exprs_stand spec e here) there) broken

    of_levels : {s : Span} → OneOf (LevelBroken look spec) spec.levels s → LookBroken look spec s
    of_levels (ByItem here (ByItem there broken)) = ByUse (InLevel here there) broken

    split : {s : Span} → LookBroken look spec s → OneOf (OwnBroken look spec) (all_exprs spec) s ⊎ OneOf
        (LevelBroken look spec) spec.levels s
    split (ByUse (InExpr {e = e} stands there) broken) = inl
        (ByItem (stands_listed spec e stands) (ByItem there broken))
    split (ByUse (InLevel here there) broken) = inr (ByItem here (ByItem there broken))

pub rule_6_is : (spec : Spec) (tables : Tables) → IsTables spec tables
    → IsLeast (Rule6 spec) (found_in looks.Declared tables spec)
rule_6_is spec tables made = least_same (LookBroken looks.Declared spec) (Rule6 spec)
    (found_in looks.Declared tables spec) (λ s p. to p) (λ s r. from r) (look_is spec tables made looks.Declared tt)
  where
    to : {s : Span} → LookBroken looks.Declared spec s → Rule6 spec s
    to (ByUse used (At un is)) = let P : Span → Type 0 = Rule6 spec in subst P is (NotDeclared used un)

    from : {s : Span} → Rule6 spec s → LookBroken looks.Declared spec s
    from (NotDeclared used un) = ByUse used (At un refl)

pub rule_7_is : (spec : Spec) (tables : Tables) → IsTables spec tables
    → IsLeast (Rule7 spec) (found_in looks.Kinds tables spec)
rule_7_is spec tables made = least_same (LookBroken looks.Kinds spec) (Rule7 spec) (found_in looks.Kinds tables spec)
    (λ s p. to p) (λ s r. from r) (look_is spec tables made looks.Kinds tt)
  where
    to : {s : Span} → LookBroken looks.Kinds spec s → Rule7 spec s
    to (ByUse used (At un is)) = let P : Span → Type 0 = Rule7 spec in subst P is (WrongKind used un.0 un.1)

    from : {s : Span} → Rule7 spec s → LookBroken looks.Kinds spec s
    from (WrongKind used known wrong) = ByUse used (At (known, wrong) refl)
