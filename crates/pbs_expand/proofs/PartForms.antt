-- The nodes of a form, in the words of the form.
use Rattle.std.proofs.Common.{◌≡◌, ℕ, zero, suc, ◌+◌, ◌-◌, ◌/◌, Bool, true, false, ◌⊎◌, inl, inr, Option, Some, None}
use Rattle.std.proofs.Common.{List, [], ◌∷◌, length, take, drop, nat_eq, nat_le, refl, sym, subst, arith}
use Rattle.std.specs.Prelude.{Contains, if◌then◌else◌}
use Rattle.std.proofs.lemmas.Bool.Decides.{nat_tests}
use Rattle.std.proofs.lemmas.List.Elements.{Contains-append_cases, Contains-append_left, Contains-append_right}
use Rattle.std.proofs.lemmas.List.{take-append-drop}
use Rattle.pbs_ast.proofs.Items.{first_item, no_item}
use Rattle.pbs_base.specs.declared.refusal.Span.{Span}
use Rattle.pbs_ast.specs.declared.syntax.Expr.{Expr}
use Rattle.pbs_ast.specs.declared.syntax.Prod.{Prod}
use Rattle.pbs_names.specs.Naming.{body_of}
use Rattle.pbs_names.specs.Forms as forms
use Rattle.pbs_names.specs.Forms.{Form, form, parts}
use Rattle.pbs_names.specs.Reach.{Itself, InPart, InProd, MayBeEmpty, EmptyMay, ActionMay, AllMay, SomeMay, NoneMay}
use Rattle.pbs_names.specs.Reach.{StarMay, PlusMay, OptMay, HoldMay, ScopeMay, NameMay, UnknownMay, NoCopyMay}
use Rattle.pbs_names.specs.Reach.{CopiesMay}
use Rattle.pbs_expand.specs.declared.parts.Pairing.{Pairing}
use Rattle.pbs_expand.specs.declared.parts.Pairing.TheVariants.{Sequence, Choice}
use Rattle.pbs_expand.specs.Parts.{Part, Whole, Run, Nothing, Starred, Copies, UpTo, Further, Pair, shape, form_shape}
use Rattle.pbs_expand.specs.Parts.{named_shape, halves, run_part, run_span, copies_part, copies_shape, upto_shape}
use Rattle.pbs_expand.specs.Parts.{stripped}
use Rattle.pbs_expand.proofs.PartWords.{PartMay, ShapeMay, IsBusy, PartBusy, ShapeBusy}
use Rattle.pbs_expand.proofs.Strips.{IsOnly, Same, OfSeq, OfChoice, OfOne, only}

-- the one item of a list
pub only_item : {X : Type 0} (x y : X) → Contains (x ∷ []) y → x ≡ y
only_item x y (zero, below, is) = is
only_item x y (suc k, below, is) = absurd (omega (arith, below))

-- an item stands in one of the halves
pub in_half : (h : ℕ) (items : List Expr) (e : Expr) → Contains items e
    → Contains (take h items) e ⊎ Contains (drop h items) e
in_half h items e here =
    let P : List Expr → Type 0 = λ xs. Contains xs e in
    Contains-append_cases (take h items) (drop h items) e (subst P (sym (take-append-drop h items)) here)

pub from_left : (h : ℕ) (items : List Expr) (e : Expr) → Contains (take h items) e → Contains items e
from_left h items e here =
    let P : List Expr → Type 0 = λ xs. Contains xs e in subst P (take-append-drop h items)
    (Contains-append_left (take h items) (drop h items) e here)

pub from_right : (h : ℕ) (items : List Expr) (e : Expr) → Contains (drop h items) e → Contains items e
from_right h items e here =
    let P : List Expr → Type 0 = λ xs. Contains xs e in subst P (take-append-drop h items)
    (Contains-append_right (take h items) (drop h items) e here)

-- ---- what may be empty
may_run_all : (prods : List Prod) (items : List Expr) → PartMay prods (run_part Sequence items) → (e : Expr)
    → Contains items e → MayBeEmpty prods (form e)
may_run_all prods [] may e here = absurd (no_item here)
may_run_all prods (x ∷ []) may e here = let P : Expr
    → Type 0 = λ z. MayBeEmpty prods (form z) in subst P (only_item x e here) may
may_run_all prods (x ∷ y ∷ items) may e here = may e here

may_run_some : (prods : List Prod) (items : List Expr) → PartMay prods (run_part Choice items)
    → (e : Expr) × Contains items e × MayBeEmpty prods (form e)
may_run_some prods [] may = may
may_run_some prods (x ∷ []) may = (x, first_item x [], may)
may_run_some prods (x ∷ y ∷ items) may = may

may_halves_all : (prods : List Prod) (span : Span) (items : List Expr) → ShapeMay prods (halves span Sequence items)
    → (e : Expr) → Contains items e → MayBeEmpty prods (form e)
may_halves_all prods span items may e here =
    let h = (length items + 1) / 2 in
    elim (in_half h items e here) [
      | inl left ↦ may_run_all prods (take h items) may.0 e left
      | inr right ↦ may_run_all
          prods (drop h items) may.1 e right
    ]

may_halves_some : (prods : List Prod) (span : Span) (items : List Expr) → ShapeMay prods (halves span Choice items)
    → (e : Expr) × Contains items e × MayBeEmpty prods (form e)
may_halves_some prods span items (inl may) =
    let h = (length items + 1) / 2 in let some = may_run_some prods (take h items) may in
    (some.0, from_left h items some.0 some.1, some.2)
may_halves_some prods span items (inr may) =
    let h = (length items + 1) / 2 in let some = may_run_some prods (drop h items) may in
    (some.0, from_right h items some.0 some.1, some.2)

may_copies : (prods : List Prod) (span : Span) (e : Expr) (k : ℕ) (b : Bool)
    → PartMay prods (if b then Whole e else Copies span e k) → MayBeEmpty prods (form e)
may_copies prods span e k true may = may
may_copies prods span e k false may = may

may_named : (prods : List Prod) (span : Span) (name : List ℕ) (o : Option Expr) → body_of prods name ≡ o
    → ShapeMay prods (named_shape span o) → MayBeEmpty prods (forms.Name name)
may_named prods span name (Some e) is may = NameMay is may
may_named prods span name None is may = UnknownMay is

may_repeat : (prods : List Prod) (span : Span) (e : Expr) (m n : ℕ) (b c : Bool) → nat_eq m 0 ≡ c
    → ShapeMay prods (if b then copies_shape span e m else if c then upto_shape span e n else Pair span Sequence
    (copies_part span e m) (UpTo span e (n - m))) → MayBeEmpty prods (forms.Repeat e m n)
may_repeat prods span e m n true c is may = let h = (m + 1) / 2 in CopiesMay
    (may_copies prods span e h (nat_eq h 1) may.0)
may_repeat prods span e m n false true is may = NoCopyMay (grind (arith, nat_tests))
may_repeat prods span e m n false false is may = CopiesMay (may_copies prods span e m (nat_eq m 1) may.0)

may_form : (prods : List Prod) (span : Span) (f : Form) → ShapeMay prods (form_shape prods span f) → MayBeEmpty prods f
may_form prods span forms.Empty may = EmptyMay
may_form prods span (forms.Terminal t) may = absurd may
may_form prods span (forms.Action name at) may = ActionMay
may_form prods span (forms.Seq []) may = AllMay (λ e here. absurd (no_item here))
may_form prods span (forms.Seq (x ∷ items)) may = AllMay (may_halves_all prods span (x ∷ items) may)
may_form prods span (forms.Choice []) may = NoneMay
may_form prods span (forms.Choice (x ∷ items)) may = let some = may_halves_some prods span (x ∷ items) may in SomeMay
    some.1 some.2
may_form prods span (forms.Star e) may = StarMay
may_form prods span (forms.Plus e) may = PlusMay may.0
may_form prods span (forms.Opt e) may = OptMay
may_form prods span (forms.Hold t e) may = HoldMay may
may_form prods span (forms.Scope e x h) may = ScopeMay may
may_form prods span (forms.Name name) may = may_named prods span name (body_of prods name) refl may
may_form prods span (forms.Repeat e m n) may = may_repeat prods span e m n (nat_eq m n) (nat_eq m 0) refl may

may_only : (prods : List Prod) (d e : Expr) → IsOnly d e → MayBeEmpty prods (form d) → MayBeEmpty prods (form e)
may_only prods d e Same may = may
may_only prods d e (OfSeq {x = x} is more) may =
    let P : Form → Type 0 = MayBeEmpty prods in let Q : Expr → Type 0 = λ z. MayBeEmpty prods (form z) in
    let inner = may_only prods d x more may in subst P (sym is) (AllMay (λ y here. subst Q (only_item x y here) inner))
may_only prods d e (OfChoice {x = x} is more) may =
    let P : Form → Type 0 = MayBeEmpty prods in subst P (sym is)
    (SomeMay (first_item x []) (may_only prods d x more may))
may_only prods d e (OfOne {x = x} is one more) may =
    let P : Form → Type 0 = MayBeEmpty prods in subst P (sym is) (CopiesMay (may_only prods d x more may))

-- a node that may be empty is that of a part that may be so
pub may_part : (prods : List Prod) (p : Part) → ShapeMay prods (shape prods p) → PartMay prods p
may_part prods (Whole e) may = let d = stripped e in may_only prods d e (only e) (may_form prods d.span (form d) may)
may_part prods (Run Sequence items) may = may_halves_all prods (run_span items) items may
may_part prods (Run Choice items) may = may_halves_some prods (run_span items) items may
may_part prods (Nothing span) may = tt
may_part prods (Starred span e) may = tt
may_part prods (Copies span e k) may = let h = (k + 1) / 2 in may_copies prods span e h (nat_eq h 1) may.0
may_part prods (UpTo span e k) may = tt
may_part prods (Further span e k) may = may.0

-- ---- actions and scopes
busy_up : (prods : List Prod) (f : Form) (e : Expr) → Contains (parts f) e → IsBusy prods (form e) → IsBusy prods f
busy_up prods f e here (inl (name, at, lies)) = inl (name, at, InPart here lies)
busy_up prods f e here (inr (b, x, h, lies)) = inr (b, x, h, InPart here lies)

busy_prod : (prods : List Prod) (name : List ℕ) (e : Expr) → body_of prods name ≡ Some e → IsBusy prods (form e)
    → IsBusy prods (forms.Name name)
busy_prod prods name e is (inl (action, at, lies)) = inl (action, at, InProd is lies)
busy_prod prods name e is (inr (b, x, h, lies)) = inr (b, x, h, InProd is lies)

busy_run : (prods : List Prod) (by : Pairing) (items : List Expr) → PartBusy prods (run_part by items)
    → (e : Expr) × Contains items e × IsBusy prods (form e)
busy_run prods by [] busy = busy
busy_run prods by (x ∷ []) busy = (x, first_item x [], busy)
busy_run prods by (x ∷ y ∷ items) busy = busy

busy_halves : (prods : List Prod) (span : Span) (by : Pairing) (items : List Expr)
    → ShapeBusy prods (halves span by items) → (e : Expr) × Contains items e × IsBusy prods (form e)
busy_halves prods span by items (inl busy) =
    let h = (length items + 1) / 2 in let some = busy_run prods by (take h items) busy in
    (some.0, from_left h items some.0 some.1, some.2)
busy_halves prods span by items (inr busy) =
    let h = (length items + 1) / 2 in let some = busy_run prods by (drop h items) busy in
    (some.0, from_right h items some.0 some.1, some.2)

busy_copies : (prods : List Prod) (span : Span) (e : Expr) (k : ℕ) (b : Bool)
    → PartBusy prods (if b then Whole e else Copies span e k) → IsBusy prods (form e)
busy_copies prods span e k true busy = busy
busy_copies prods span e k false busy = busy

busy_further : (prods : List Prod) (span : Span) (e : Expr) (k : ℕ) (b : Bool)
    → PartBusy prods (if b then Whole e else Further span e k) → IsBusy prods (form e)
busy_further prods span e k true busy = busy
busy_further prods span e k false busy = busy

busy_f : (prods : List Prod) (span : Span) (e : Expr) (k : ℕ) → ShapeBusy prods (copies_shape span e k)
    → IsBusy prods (form e)
busy_f prods span e k (inl busy) = let h = (k + 1) / 2 in busy_copies prods span e h (nat_eq h 1) busy
busy_f prods span e k (inr busy) = let h = k - (k + 1) / 2 in busy_copies prods span e h (nat_eq h 1) busy

busy_o : (prods : List Prod) (span : Span) (e : Expr) (k : ℕ) → ShapeBusy prods (upto_shape span e k)
    → IsBusy prods (form e)
busy_o prods span e k (inl busy) = busy_further prods span e (k - 1) (nat_le k 1) busy
busy_o prods span e k (inr busy) = absurd busy

busy_named : (prods : List Prod) (span : Span) (name : List ℕ) (o : Option Expr) → body_of prods name ≡ o
    → ShapeBusy prods (named_shape span o) → IsBusy prods (forms.Name name)
busy_named prods span name (Some e) is busy = busy_prod prods name e is busy
busy_named prods span name None is busy = absurd busy

busy_repeat : (prods : List Prod) (span : Span) (e : Expr) (m n : ℕ) (b c : Bool)
    → ShapeBusy prods (if b then copies_shape span e m else if c then upto_shape span e n else Pair span Sequence
    (copies_part span e m) (UpTo span e (n - m))) → IsBusy prods (form e)
busy_repeat prods span e m n true c busy = busy_f prods span e m busy
busy_repeat prods span e m n false true busy = busy_o prods span e n busy
busy_repeat prods span e m n false false (inl busy) = busy_copies prods span e m (nat_eq m 1) busy
busy_repeat prods span e m n false false (inr busy) = busy

busy_form : (prods : List Prod) (span : Span) (f : Form) → ShapeBusy prods (form_shape prods span f) → IsBusy prods f
busy_form prods span forms.Empty busy = absurd busy
busy_form prods span (forms.Terminal t) busy = absurd busy
busy_form prods span (forms.Action name at) busy = inl (name, at, Itself)
busy_form prods span (forms.Seq []) busy = absurd busy
busy_form prods span (forms.Seq (x ∷ items)) busy = let some = busy_halves prods span Sequence (x ∷ items) busy in
    busy_up prods (forms.Seq (x ∷ items)) some.0 some.1 some.2
busy_form prods span (forms.Choice []) busy = absurd busy
busy_form prods span (forms.Choice (x ∷ items)) busy = let some = busy_halves prods span Choice (x ∷ items) busy in
    busy_up prods (forms.Choice (x ∷ items)) some.0 some.1 some.2
busy_form prods span (forms.Star e) busy = busy_up prods (forms.Star e) e (first_item e []) busy
busy_form prods span (forms.Plus e) (inl busy) = busy_up prods (forms.Plus e) e (first_item e []) busy
busy_form prods span (forms.Plus e) (inr busy) = busy_up prods (forms.Plus e) e (first_item e []) busy
busy_form prods span (forms.Opt e) (inl busy) = busy_up prods (forms.Opt e) e (first_item e []) busy
busy_form prods span (forms.Opt e) (inr busy) = absurd busy
busy_form prods span (forms.Hold t e) busy = busy_up prods (forms.Hold t e) e (first_item e []) busy
busy_form prods span (forms.Scope e x h) busy = inr (e, x, h, Itself)
busy_form prods span (forms.Name name) busy = busy_named prods span name (body_of prods name) refl busy
busy_form prods span (forms.Repeat e m n) busy = busy_up prods (forms.Repeat e m n) e (first_item e [])
    (busy_repeat prods span e m n (nat_eq m n) (nat_eq m 0) busy)

busy_only : (prods : List Prod) (d e : Expr) → IsOnly d e → IsBusy prods (form d) → IsBusy prods (form e)
busy_only prods d e Same busy = busy
busy_only prods d e (OfSeq {x = x} is more) busy = let P : Form
    → Type 0 = IsBusy prods in subst P (sym is) (busy_up prods (forms.Seq (x ∷ [])) x (first_item x [])
    (busy_only prods d x more busy))
busy_only prods d e (OfChoice {x = x} is more) busy = let P : Form
    → Type 0 = IsBusy prods in subst P (sym is) (busy_up prods (forms.Choice (x ∷ [])) x (first_item x [])
    (busy_only prods d x more busy))
busy_only prods d e (OfOne {x = x} {m = m} {n = n} is one more) busy = let P : Form
    → Type 0 = IsBusy prods in subst P (sym is) (busy_up prods (forms.Repeat x m n) x (first_item x [])
    (busy_only prods d x more busy))

pub busy_part : (prods : List Prod) (p : Part) → ShapeBusy prods (shape prods p) → PartBusy prods p
busy_part prods (Whole e) busy = let d = stripped e in busy_only prods d e (only e)
    (busy_form prods d.span (form d) busy)
busy_part prods (Run by items) busy = busy_halves prods (run_span items) by items busy
busy_part prods (Nothing span) busy = busy
busy_part prods (Starred span e) busy = busy
busy_part prods (Copies span e k) busy = busy_f prods span e k busy
busy_part prods (UpTo span e k) busy = busy_o prods span e k busy
busy_part prods (Further span e k) (inl busy) = busy
busy_part prods (Further span e k) (inr busy) = busy
