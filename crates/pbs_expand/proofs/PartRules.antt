-- The nodes of a form: the terminals in them, and rules 9 and 10.
use Rattle.std.proofs.Common.{◌≡◌, ℕ, zero, suc, ◌+◌, ◌-◌, ◌/◌, Bool, true, false, ◌⊎◌, inl, inr, Option, Some, None}
use Rattle.std.proofs.Common.{List, [], ◌∷◌, length, take, drop, nat_eq, nat_le, refl, sym, ap, subst, arith}
use Rattle.std.specs.Prelude.{Contains, if◌then◌else◌, ◌==◌}
use Rattle.std.specs.Cmp.Lexicographic.{pointwise}
use Rattle.pbs_ast.proofs.Items.{first_item, later_item, no_item}
use Rattle.pbs_base.specs.declared.refusal.Span.{Span}
use Rattle.pbs_ast.specs.declared.syntax.Expr.{Expr}
use Rattle.pbs_ast.specs.declared.syntax.Prod.{Prod}
use Rattle.pbs_ast.specs.declared.syntax.Spec.{Spec}
use Rattle.pbs_names.specs.Naming.{body_of}
use Rattle.pbs_names.specs.Forms as forms
use Rattle.pbs_names.specs.Forms.{Form, form, parts, Stands, OfProd, OfPart}
use Rattle.pbs_names.specs.StarsAndScopes.{EmptyStar, EmptyPlus, EmptyTrap, ActionInTrap, ScopeInTrap, NoTerminal}
use Rattle.pbs_names.specs.Reach.{Itself, InPart, InProd, HasTerminal}
use Rattle.pbs_expand.specs.declared.parts.Pairing.{Pairing}
use Rattle.pbs_expand.specs.declared.parts.Pairing.TheVariants.{Sequence, Choice}
use Rattle.pbs_expand.specs.Parts.{Part, Whole, Run, Nothing, Starred, Copies, UpTo, Further, Pair, shape, form_shape}
use Rattle.pbs_expand.specs.Parts.{named_shape, halves, run_part, run_span, copies_part, copies_shape, upto_shape}
use Rattle.pbs_expand.specs.Parts.{stripped}
use Rattle.pbs_expand.specs.Ready.{IsReady}
use Rattle.pbs_expand.proofs.PartWords.{PartHas, ShapeHas, PartStands, ShapeIsRight}
use Rattle.pbs_expand.proofs.PartForms.{only_item, in_half, from_left, from_right}
use Rattle.pbs_expand.proofs.Strips.{IsOnly, Same, OfSeq, OfChoice, OfOne, only}

-- ---- terminals
has_run : (prods : List Prod) (by : Pairing) (items : List Expr) (e : Expr) → Contains items e
    → HasTerminal prods (form e) → PartHas prods (run_part by items)
has_run prods by [] e here has = absurd (no_item here)
has_run prods by (x ∷ []) e here has = let P : Expr
    → Type 0 = λ z. HasTerminal prods (form z) in subst P (sym (only_item x e here)) has
has_run prods by (x ∷ y ∷ items) e here has = (e, here, has)

has_halves : (prods : List Prod) (span : Span) (by : Pairing) (items : List Expr) (e : Expr) → Contains items e
    → HasTerminal prods (form e) → ShapeHas prods (halves span by items)
has_halves prods span by items e here has =
    let h = (length items + 1) / 2 in
    elim (in_half h items e here) [
      | inl left ↦ inl (has_run prods by (take h items) e left has)
      | inr right ↦ inr
          (has_run prods by (drop h items) e right has)
    ]

has_copies : (prods : List Prod) (span : Span) (e : Expr) (k : ℕ) (b : Bool) → HasTerminal prods (form e)
    → PartHas prods (if b then Whole e else Copies span e k)
has_copies prods span e k true has = has
has_copies prods span e k false has = has

has_further : (prods : List Prod) (span : Span) (e : Expr) (k : ℕ) (b : Bool) → HasTerminal prods (form e)
    → PartHas prods (if b then Whole e else Further span e k)
has_further prods span e k true has = has
has_further prods span e k false has = has

has_f : (prods : List Prod) (span : Span) (e : Expr) (k : ℕ) → HasTerminal prods (form e)
    → ShapeHas prods (copies_shape span e k)
has_f prods span e k has = let h = (k + 1) / 2 in inl (has_copies prods span e h (nat_eq h 1) has)

has_o : (prods : List Prod) (span : Span) (e : Expr) (k : ℕ) → HasTerminal prods (form e)
    → ShapeHas prods (upto_shape span e k)
has_o prods span e k has = inl (has_further prods span e (k - 1) (nat_le k 1) has)

has_repeat : (prods : List Prod) (span : Span) (e : Expr) (m n : ℕ) (b c : Bool) → HasTerminal prods (form e)
    → ShapeHas prods (if b then copies_shape span e m else if c then upto_shape span e n else Pair span Sequence
    (copies_part span e m) (UpTo span e (n - m)))
has_repeat prods span e m n true c has = has_f prods span e m has
has_repeat prods span e m n false true has = has_o prods span e n has
has_repeat prods span e m n false false has = inr has

-- a part that has a terminal gives one to the node
has_by : (prods : List Prod) (span : Span) (f : Form) (e : Expr) → Contains (parts f) e → HasTerminal prods (form e)
    → ShapeHas prods (form_shape prods span f)
has_by prods span forms.Empty e here has = absurd (no_item here)
has_by prods span (forms.Terminal t) e here has = tt
has_by prods span (forms.Action name at) e here has = absurd (no_item here)
has_by prods span (forms.Seq []) e here has = absurd (no_item here)
has_by prods span (forms.Seq (x ∷ items)) e here has = has_halves prods span Sequence (x ∷ items) e here has
has_by prods span (forms.Choice []) e here has = absurd (no_item here)
has_by prods span (forms.Choice (x ∷ items)) e here has = has_halves prods span Choice (x ∷ items) e here has
has_by prods span (forms.Star x) e here has = let P : Expr
    → Type 0 = λ z. HasTerminal prods (form z) in subst P (sym (only_item x e here)) has
has_by prods span (forms.Plus x) e here has = let P : Expr
    → Type 0 = λ z. HasTerminal prods (form z) in inl (subst P (sym (only_item x e here)) has)
has_by prods span (forms.Opt x) e here has = let P : Expr
    → Type 0 = λ z. HasTerminal prods (form z) in inl (subst P (sym (only_item x e here)) has)
has_by prods span (forms.Hold t x) e here has = let P : Expr
    → Type 0 = λ z. HasTerminal prods (form z) in subst P (sym (only_item x e here)) has
has_by prods span (forms.Scope b x h) e here has =
    elim (cases_cons b (x ∷ h ∷ []) e here) [
      | inl same ↦ inl (moved b e same has)
      | inr later ↦ elim (cases_cons x (h ∷ []) e later)
          [ inl same ↦ inr (inl (moved x e same has)) | inr last ↦ inr (inr (moved h e (only_item h e last) has)) ]
    ]
  where
    cases_cons : (x : Expr) (xs : List Expr) (y : Expr) → Contains (x ∷ xs) y → (x ≡ y) ⊎ Contains xs y
    cases_cons x xs y (zero, below, is) = inl is
    cases_cons x xs y (suc k, below, is) = inr (k, omega (arith, below), is)

    moved : (x y : Expr) → x ≡ y → HasTerminal prods (form y) → HasTerminal prods (form x)
    moved x y same has = let P : Expr → Type 0 = λ z. HasTerminal prods (form z) in subst P (sym same) has
has_by prods span (forms.Name name) e here has = absurd (no_item here)
has_by prods span (forms.Repeat x m n) e here has =
    let P : Expr → Type 0 = λ z. HasTerminal prods (form z) in has_repeat prods span x m n (nat_eq m n) (nat_eq m 0)
    (subst P (sym (only_item x e here)) has)

has_form : (prods : List Prod) (span : Span) (f : Form) → HasTerminal prods f → ShapeHas prods (form_shape prods span f)
has_form prods span f (t, Itself) = tt
has_form prods span f (t, InPart {e = e} here lies) = has_by prods span f e here (t, lies)
has_form prods span f (t, InProd {name = name} {e = e} is lies) =
    let P : Option Expr → Type 0 = λ o. ShapeHas prods (named_shape span o) in subst P (sym is) (t, lies)

-- what lies in an expression lies in the only one that it holds
has_one : (prods : List Prod) (f : Form) (x : Expr) → parts f ≡ x ∷ [] → HasTerminal prods f
    → HasTerminal prods (form x)
has_one prods f x one (t, Itself) = cc
has_one prods f x one (t, InPart {e = e} here lies) =
    let P : List Expr → Type 0 = λ xs. Contains xs e in let Q : Expr → Type 0 = λ z. HasTerminal prods (form z) in
    subst Q (sym (only_item x e (subst P one here))) (t, lies)
has_one prods f x one (t, InProd is lies) = cc

has_only : (prods : List Prod) (d e : Expr) → IsOnly d e → HasTerminal prods (form e) → HasTerminal prods (form d)
has_only prods d e Same has = has
has_only prods d e (OfSeq {x = x} is more) has = has_only prods d x more (has_one prods (form e) x (ap parts is) has)
has_only prods d e (OfChoice {x = x} is more) has = has_only prods d x more (has_one prods (form e) x (ap parts is) has)
has_only prods d e (OfOne {x = x} is one more) has = has_only prods d x more
    (has_one prods (form e) x (ap parts is) has)

pub has_part : (prods : List Prod) (p : Part) → PartHas prods p → ShapeHas prods (shape prods p)
has_part prods (Whole e) has = let d = stripped e in has_form prods d.span (form d) (has_only prods d e (only e) has)
has_part prods (Run by items) has = has_halves prods (run_span items) by items has.0 has.1 has.2
has_part prods (Nothing span) has = has
has_part prods (Starred span e) has = has
has_part prods (Copies span e k) has = has_f prods span e k has
has_part prods (UpTo span e k) has = has_o prods span e k has
has_part prods (Further span e k) has = inl has

-- ---- rules 9 and 10
stands_run : (spec : Spec) (by : Pairing) (items : List Expr) → ((e : Expr) → Contains items e → Stands spec e)
    → PartStands spec (run_part by items)
stands_run spec by [] all = all
stands_run spec by (x ∷ []) all = all x (first_item x [])
stands_run spec by (x ∷ y ∷ items) all = all

stands_halves : (spec : Spec) (span : Span) (by : Pairing) (items : List Expr)
    → ((e : Expr) → Contains items e → Stands spec e) → ShapeIsRight spec (halves span by items)
stands_halves spec span by items all =
    let h = (length items + 1) / 2 in (
      stands_run spec by (take h items) (λ e here. all e (from_left h items e here)),
      stands_run spec by (drop h items)
          (λ e here. all e (from_right h items e here)),
    )

stands_copies : (spec : Spec) (span : Span) (e : Expr) (k : ℕ) (b : Bool) → Stands spec e
    → PartStands spec (if b then Whole e else Copies span e k)
stands_copies spec span e k true stands = stands
stands_copies spec span e k false stands = stands

stands_further : (spec : Spec) (span : Span) (e : Expr) (k : ℕ) (b : Bool) → Stands spec e
    → PartStands spec (if b then Whole e else Further span e k)
stands_further spec span e k true stands = stands
stands_further spec span e k false stands = stands

stands_f : (spec : Spec) (span : Span) (e : Expr) (k : ℕ) → Stands spec e → ShapeIsRight spec (copies_shape span e k)
stands_f spec span e k stands =
    let h = (k + 1) / 2 in (
      stands_copies spec span e h (nat_eq h 1) stands,
      stands_copies spec span e (k - h)
          (nat_eq (k - h) 1) stands,
    )

stands_o : (spec : Spec) (span : Span) (e : Expr) (k : ℕ) → Stands spec e → ShapeIsRight spec (upto_shape span e k)
stands_o spec span e k stands = (stands_further spec span e (k - 1) (nat_le k 1) stands, tt)

stands_repeat : (spec : Spec) (span : Span) (e : Expr) (m n : ℕ) (b c : Bool) → Stands spec e
    → ShapeIsRight spec (if b then copies_shape span e m else if c then upto_shape span e n else Pair span Sequence
    (copies_part span e m) (UpTo span e (n - m)))
stands_repeat spec span e m n true c stands = stands_f spec span e m stands
stands_repeat spec span e m n false true stands = stands_o spec span e n stands
stands_repeat spec span e m n false false stands = (stands_copies spec span e m (nat_eq m 1) stands, stands)

-- the production that a name names stands in the specification
pub body_stands : (ps : List Prod) (name : List ℕ) (e : Expr) → body_of ps name ≡ Some e
    → (p : Prod) × Contains ps p × (p.body ≡ e)
body_stands [] name e is = cc
body_stands (p ∷ ps) name e is = stands (pointwise ◌==◌ p.name name) (body_stands ps name e) is
  where
    stands : (b : Bool) → (body_of ps name ≡ Some e → (q : Prod) × Contains ps q × (q.body ≡ e))
        → (if b then Some p.body else body_of ps name) ≡ Some e → (q : Prod) × Contains (p ∷ ps) q × (q.body ≡ e)
    stands true later here = (p, first_item p ps, cc)
    stands false later here = let q = later here in (q.0, later_item p ps q.1, q.2)

stands_named : (spec : Spec) (span : Span) (name : List ℕ) (o : Option Expr) → body_of spec.prods name ≡ o
    → ShapeIsRight spec (named_shape span o)
stands_named spec span name (Some e) is =
    let q = body_stands spec.prods name e is in let P : Expr → Type 0 = Stands spec in subst P q.2 (OfProd q.1)
stands_named spec span name None is = tt

right_form : (spec : Spec) → IsReady spec → (e : Expr) (f : Form) → form e ≡ f → Stands spec e
    → ((d : Expr) → Contains (parts f) d → Stands spec d) → ShapeIsRight spec (form_shape spec.prods e.span f)
right_form spec ready e forms.Empty is stands all = tt
right_form spec ready e (forms.Terminal t) is stands all = tt
right_form spec ready e (forms.Action name at) is stands all = tt
right_form spec ready e (forms.Seq []) is stands all = tt
right_form spec ready e (forms.Seq (x ∷ items)) is stands all = stands_halves spec e.span Sequence (x ∷ items) all
right_form spec ready e (forms.Choice []) is stands all = tt
right_form spec ready e (forms.Choice (x ∷ items)) is stands all = stands_halves spec e.span Choice (x ∷ items) all
right_form spec ready e (forms.Star x) is stands all =
    (all x (first_item x []), λ may. ready.rule_9 x.span (EmptyStar stands is may))
right_form spec ready e (forms.Plus x) is stands all = let inner = all x (first_item x []) in
    (inner, (inner, λ may. ready.rule_9 x.span (EmptyPlus stands is may)))
right_form spec ready e (forms.Opt x) is stands all = (all x (first_item x []), tt)
right_form spec ready e (forms.Hold t x) is stands all = all x (first_item x [])
right_form spec ready e (forms.Scope b x h) is stands all = record {
  body = all b (first_item b (x ∷ h ∷ []));
  trap = all x (later_item b (x ∷ h ∷ []) (first_item x (h ∷ [])));
  after = all h (later_item b (x ∷ h ∷ []) (later_item x (h ∷ []) (first_item h [])));
  has = λ no. ready.rule_10 e.span (NoTerminal stands is no);
  moves = λ may. ready.rule_10 e.span (EmptyTrap stands is may);
  plain = λ busy. elim busy [
    | inl action ↦ ready.rule_10 e.span (ActionInTrap stands is action)
    | inr scope ↦
        ready.rule_10 e.span (ScopeInTrap stands is scope)
  ];
}
right_form spec ready e (forms.Name name) is stands all = stands_named spec e.span name (body_of spec.prods name) refl
right_form spec ready e (forms.Repeat x m n) is stands all = stands_repeat spec e.span x m n (nat_eq m n) (nat_eq m 0)
    (all x (first_item x []))

stands_only : (spec : Spec) (d e : Expr) → IsOnly d e → Stands spec e → Stands spec d
stands_only spec d e Same stands = stands
stands_only spec d e (OfSeq {x = x} is more) stands =
    let P : List Expr → Type 0 = λ xs. Contains xs x in stands_only spec d x more
    (OfPart stands (subst P (sym (ap parts is)) (first_item x [])))
stands_only spec d e (OfChoice {x = x} is more) stands =
    let P : List Expr → Type 0 = λ xs. Contains xs x in stands_only spec d x more
    (OfPart stands (subst P (sym (ap parts is)) (first_item x [])))
stands_only spec d e (OfOne {x = x} is one more) stands =
    let P : List Expr → Type 0 = λ xs. Contains xs x in stands_only spec d x more
    (OfPart stands (subst P (sym (ap parts is)) (first_item x [])))

-- the nodes of a specification that breaks neither rule are right
pub right_part : (spec : Spec) → IsReady spec → (p : Part) → PartStands spec p → ShapeIsRight spec (shape spec.prods p)
right_part spec ready (Whole e) stands =
    let d = stripped e in let here = stands_only spec d e (only e) stands in right_form spec ready d (form d) refl
    here (λ x part. OfPart here part)
right_part spec ready (Run by items) stands = stands_halves spec (run_span items) by items stands
right_part spec ready (Nothing span) stands = tt
right_part spec ready (Starred span e) stands = stands
right_part spec ready (Copies span e k) stands = stands_f spec span e k stands
right_part spec ready (UpTo span e k) stands = stands_o spec span e k stands
right_part spec ready (Further span e k) stands = (stands, stands)
