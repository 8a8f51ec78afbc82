-- What is visited, and the node of it, with every box at one place.
use Rattle.std.proofs.Common.{◌≡◌, ℕ, ◌+◌, ◌-◌, ◌/◌, Bool, true, false, Option, Some, None, nat_eq, nat_le, List, []}
use Rattle.std.proofs.Common.{◌∷◌, map, length, take, drop, slice_get, refl, ap, ap₂, ◌∙◌}
use Rattle.std.specs.Prelude.{if◌then◌else◌}
use Rattle.std.specs.Option.{option_map}
use Rattle.std.proofs.lemmas.List.{length-map, take-map, drop-map}
use Rattle.std.proofs.lemmas.Option.{slice_get-map}
use Rattle.pbs_base.specs.declared.refusal.Span.{Span}
use Rattle.pbs_ast.specs.declared.syntax.Expr.{Expr}
use Rattle.pbs_ast.specs.declared.syntax.Prod.{Prod}
use Rattle.pbs_ast.specs.declared.syntax.Kind as kind
use Rattle.pbs_ast.specs.declared.syntax.Kind.{Row_of-Expr, end_of-Expr, more_of-Expr, items-the_row-Expr}
use Rattle.pbs_ast.specs.declared.syntax.Kind.{items_hidden-the_row-Expr-0}
use Rattle.pbs_ast.specs.declared.syntax.Kind.TheBlock.{hidden-the_row-Expr-0}
use Rattle.pbs_ast.specs.Bare.{bare_term, bare_kind, bare_exprs, bare_expr, bare_prod}
use Rattle.pbs_names.specs.Naming.{body_of}
use Rattle.pbs_names.specs.Forms as forms
use Rattle.pbs_names.specs.Forms.{Form, form, expr_of}
use Rattle.pbs_expand.specs.declared.parts.Pairing.{Pairing}
use Rattle.pbs_expand.specs.declared.parts.Pairing.TheVariants.{Sequence, Choice}
use Rattle.pbs_expand.specs.Parts as nodes
use Rattle.pbs_expand.specs.Parts.{Part, Whole, Run, Nothing, Starred, Copies, UpTo, Further, Shape, shape, span_of}
use Rattle.pbs_expand.specs.Parts.{form_shape, named_shape, repeat_shape, listed_shape, halves, run_part, run_span}
use Rattle.pbs_expand.specs.Parts.{copies_part, copies_shape, upto_shape, start_at, end_at, stripped, stripped_from}
use Rattle.pbs_expand.specs.Parts.{stripped_row}
use Rattle.pbs_names.proofs.BareForms.{bare_form, form_bare, body_bare}

abbrev pub bare_part : Part → Part
bare_part (Whole e) = Whole (bare_expr e)
bare_part (Run by items) = Run by (map bare_expr items)
bare_part (Nothing span) = Nothing span
bare_part (Starred span e) = Starred span (bare_expr e)
bare_part (Copies span e k) = Copies span (bare_expr e) k
bare_part (UpTo span e k) = UpTo span (bare_expr e) k
bare_part (Further span e k) = Further span (bare_expr e) k

abbrev pub bare_shape : Shape → Shape
bare_shape (nodes.Empty span) = nodes.Empty span
bare_shape (nodes.Terminal span t) = nodes.Terminal span (bare_term t)
bare_shape (nodes.Action span name) = nodes.Action span name
bare_shape (nodes.Name span body) = nodes.Name span (bare_part body)
bare_shape (nodes.Star span body) = nodes.Star span (bare_part body)
bare_shape (nodes.Hold span t body) = nodes.Hold span (bare_term t) (bare_part body)
bare_shape (nodes.Pair span by first second) = nodes.Pair span by (bare_part first) (bare_part second)
bare_shape (nodes.Scope span body trap after) = nodes.Scope span (bare_part body) (bare_part trap) (bare_part after)

-- the same choice of bare things is the bare thing that is chosen
chosen : {X Y : Type 0} (f : X → Y) (b : Bool) (x y : X) → (if b then f x else f y) ≡ f (if b then x else y)
chosen f true x y = refl
chosen f false x y = refl

-- ---- the expression that is visited for another
chosen_twice : (b c : Bool) (x x' y : Expr) → x' ≡ bare_expr x
    → (if b then (if c then x' else bare_expr y) else bare_expr y) ≡ bare_expr (if b then (if c then x else y) else y)
chosen_twice true true x x' y same = same
chosen_twice true false x x' y same = refl
chosen_twice false c x x' y same = refl

-- the one item of a list is visited for the list
abbrev only_of : Expr → List Expr → Expr
only_of all [] = all
only_of all (e ∷ []) = stripped e
only_of all (e ∷ d ∷ es) = all

only_of_row : (all : Expr) (n : _) (row : Row_of-Expr n) → stripped_row all row ≡ only_of all (items-the_row-Expr n row)
only_of_row all n end_of-Expr = refl
only_of_row all n (more_of-Expr s e end_of-Expr) = refl
only_of_row all n (more_of-Expr s e (more_of-Expr s' f rest)) = refl

only_of_list : (all : Expr) (items : List Expr) → stripped_row all (hidden-the_row-Expr-0 items) ≡ only_of all items
only_of_list all items =
    only_of_row all _ (hidden-the_row-Expr-0 items) ∙ ap (only_of all) (items_hidden-the_row-Expr-0 items)

mutual
  stripped_from_bare : (span : Span) (k : kind.Kind)
      → stripped_from span (bare_kind k) ≡ bare_expr (stripped_from span k)
  stripped_from_bare span kind.Empty = refl
  stripped_from_bare span (kind.Terminal t) = refl
  stripped_from_bare span (kind.Action name at) = refl
  stripped_from_bare span (kind.Seq' n row) =
      let all = expr_of span (kind.Seq' n row) in
      only_of_list (bare_expr all) (bare_exprs row) ∙ only_of_bare all _ row
  stripped_from_bare span (kind.Choice' n row) =
      let all = expr_of span (kind.Choice' n row) in
      only_of_list (bare_expr all) (bare_exprs row) ∙ only_of_bare all _ row
  stripped_from_bare span (kind.Star' _ s e) = refl
  stripped_from_bare span (kind.Plus' _ s e) = refl
  stripped_from_bare span (kind.Opt' _ s e) = refl
  stripped_from_bare span (kind.Hold' t _ s e) = refl
  stripped_from_bare span (kind.Scope' _ s e _ s' x _ s'' h) = refl
  stripped_from_bare span (kind.Name name) = refl
  stripped_from_bare span (kind.Repeat' p s e m n) =
      chosen_twice (nat_eq m 1) (nat_eq n 1) (stripped_from s e) (stripped_from s (bare_kind e))
      (expr_of span (kind.Repeat' p s e m n)) (stripped_from_bare s e)

  only_of_bare : (all : Expr) (n : _) (row : Row_of-Expr n)
      → only_of (bare_expr all) (bare_exprs row) ≡ bare_expr (stripped_row all row)
  only_of_bare all n end_of-Expr = refl
  only_of_bare all n (more_of-Expr s e end_of-Expr) = stripped_from_bare s e
  only_of_bare all n (more_of-Expr s e (more_of-Expr s' f rest)) = refl

stripped_bare : (e : Expr) → stripped (bare_expr e) ≡ bare_expr (stripped e)
stripped_bare e = stripped_from_bare e.span e.kind

-- ---- runs
run_part_bare : (by : Pairing) (items : List Expr) → run_part by (map bare_expr items) ≡ bare_part (run_part by items)
run_part_bare by [] = refl
run_part_bare by (e ∷ []) = refl
run_part_bare by (e ∷ d ∷ es) = refl

halves_bare : (span : Span) (by : Pairing) (items : List Expr)
    → halves span by (map bare_expr items) ≡ bare_shape (halves span by items)
halves_bare span by items =
    let half = (length items + 1) / 2 in
    let cut = λ (n : ℕ). nodes.Pair span by (run_part by (take ((n + 1) / 2) (map bare_expr items)))
    (run_part by (drop ((n + 1) / 2) (map bare_expr items))) in
    ap cut (length-map items bare_expr)
    ∙ ap₂ (nodes.Pair span by)
    (ap (run_part by) (take-map bare_expr half items) ∙ run_part_bare by (take half items))
    (ap (run_part by) (drop-map bare_expr half items) ∙ run_part_bare by (drop half items))

start_bare : (o : Option Expr) → start_at (option_map bare_expr o) ≡ start_at o
start_bare (Some e) = refl
start_bare None = refl

end_bare : (o : Option Expr) → end_at (option_map bare_expr o) ≡ end_at o
end_bare (Some e) = refl
end_bare None = refl

run_span_bare : (items : List Expr) → run_span (map bare_expr items) ≡ run_span items
run_span_bare items =
    let span = λ (a b : ℕ). (let s : Span = record { start = a; end = b } in s) in
    let first = ap start_at (slice_get-map bare_expr items 0) ∙ start_bare (slice_get items 0) in
    let last = ap (λ n. end_at (slice_get (map bare_expr items) (n - 1))) (length-map items bare_expr)
    ∙ (ap end_at (slice_get-map bare_expr items (length items - 1))
    ∙ end_bare (slice_get items (length items - 1))) in
    ap₂ span first last

-- ---- shapes
copies_part_bare : (span : Span) (e : Expr) (k : ℕ)
    → copies_part span (bare_expr e) k ≡ bare_part (copies_part span e k)
copies_part_bare span e k = chosen bare_part (nat_eq k 1) (Whole e) (Copies span e k)

copies_shape_bare : (span : Span) (e : Expr) (k : ℕ)
    → copies_shape span (bare_expr e) k ≡ bare_shape (copies_shape span e k)
copies_shape_bare span e k =
    let half = (k + 1) / 2 in
    ap₂ (nodes.Pair span Sequence) (copies_part_bare span e half) (copies_part_bare span e (k - half))

upto_shape_bare : (span : Span) (e : Expr) (k : ℕ) → upto_shape span (bare_expr e) k ≡ bare_shape (upto_shape span e k)
upto_shape_bare span e k =
    ap (λ p. nodes.Pair span Choice p (Nothing span)) (chosen bare_part (nat_le k 1) (Whole e) (Further span e (k - 1)))

repeat_cases : (b c : Bool) (x x' y y' z z' : Shape) → x' ≡ bare_shape x → y' ≡ bare_shape y → z' ≡ bare_shape z
    → (if b then x' else if c then y' else z') ≡ bare_shape (if b then x else if c then y else z)
repeat_cases true c x x' y y' z z' p q r = p
repeat_cases false true x x' y y' z z' p q r = q
repeat_cases false false x x' y y' z z' p q r = r

repeat_shape_bare : (span : Span) (e : Expr) (m n : ℕ)
    → repeat_shape span (bare_expr e) m n ≡ bare_shape (repeat_shape span e m n)
repeat_shape_bare span e m n =
    let some = λ (p : Part) (d : Expr). nodes.Pair span Sequence p (UpTo span d (n - m)) in
    repeat_cases (nat_eq m n) (nat_eq m 0) (copies_shape span e m) (copies_shape span (bare_expr e) m)
    (upto_shape span e n) (upto_shape span (bare_expr e) n) (some (copies_part span e m) e)
    (some (copies_part span (bare_expr e) m) (bare_expr e)) (copies_shape_bare span e m) (upto_shape_bare span e n)
    (ap (λ p. some p (bare_expr e)) (copies_part_bare span e m))

named_shape_bare : (span : Span) (o : Option Expr)
    → named_shape span (option_map bare_expr o) ≡ bare_shape (named_shape span o)
named_shape_bare span (Some e) = refl
named_shape_bare span None = refl

listed_shape_bare : (span : Span) (by : Pairing) (items : List Expr)
    → listed_shape span by (map bare_expr items) ≡ bare_shape (listed_shape span by items)
listed_shape_bare span by [] = refl
listed_shape_bare span by (e ∷ es) = halves_bare span by (e ∷ es)

form_shape_bare : (prods : List Prod) (span : Span) (f : Form)
    → form_shape (map bare_prod prods) span (bare_form f) ≡ bare_shape (form_shape prods span f)
form_shape_bare prods span forms.Empty = refl
form_shape_bare prods span (forms.Terminal t) = refl
form_shape_bare prods span (forms.Action name at) = refl
form_shape_bare prods span (forms.Seq items) = listed_shape_bare span Sequence items
form_shape_bare prods span (forms.Choice items) = listed_shape_bare span Choice items
form_shape_bare prods span (forms.Star e) = refl
form_shape_bare prods span (forms.Plus e) = refl
form_shape_bare prods span (forms.Opt e) = refl
form_shape_bare prods span (forms.Hold t e) = refl
form_shape_bare prods span (forms.Scope e x h) = refl
form_shape_bare prods span (forms.Name name) =
    ap (named_shape span) (body_bare prods name) ∙ named_shape_bare span (body_of prods name)
form_shape_bare prods span (forms.Repeat e m n) = repeat_shape_bare span e m n

-- the node of what is visited
pub shape_bare : (prods : List Prod) (p : Part) → shape (map bare_prod prods) (bare_part p) ≡ bare_shape (shape prods p)
shape_bare prods (Whole e) =
    let d = stripped e in
    ap (λ x. form_shape (map bare_prod prods) x.span (form x)) (stripped_bare e)
    ∙ (ap (form_shape (map bare_prod prods) d.span) (form_bare d) ∙ form_shape_bare prods d.span (form d))
shape_bare prods (Run by items) =
    ap (λ span. halves span by (map bare_expr items)) (run_span_bare items) ∙ halves_bare (run_span items) by items
shape_bare prods (Nothing span) = refl
shape_bare prods (Starred span e) = refl
shape_bare prods (Copies span e k) = copies_shape_bare span e k
shape_bare prods (UpTo span e k) = upto_shape_bare span e k
shape_bare prods (Further span e k) = refl

pub span_bare : (p : Part) → span_of (bare_part p) ≡ span_of p
span_bare (Whole e) = ap (λ x. x.span) (stripped_bare e)
span_bare (Run by items) = run_span_bare items
span_bare (Nothing span) = refl
span_bare (Starred span e) = refl
span_bare (Copies span e k) = refl
span_bare (UpTo span e k) = refl
span_bare (Further span e k) = refl
