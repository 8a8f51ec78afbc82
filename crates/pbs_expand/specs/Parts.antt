-- What is visited, and the parts that it has.
use Rattle.std.specs.Prelude.{ℕ, ◌+◌, ◌-◌, ◌/◌, nat_eq, nat_le, if◌then◌else◌, Option, Some, None, List, [], ◌∷◌}
use Rattle.std.specs.Prelude.{length, slice_get, take, drop}
use Rattle.pbs_base.specs.declared.refusal.Span.{Span}
use Rattle.pbs_ast.specs.declared.syntax.Expr.{Expr}
use Rattle.pbs_ast.specs.declared.syntax.Prod.{Prod}
use Rattle.pbs_ast.specs.declared.syntax.SpecTerm.{SpecTerm}
use Rattle.pbs_ast.specs.declared.syntax.Kind as kind
use Rattle.pbs_ast.specs.declared.syntax.Kind.{Row_of-Expr, end_of-Expr, more_of-Expr}
use Rattle.pbs_names.specs.Naming.{body_of}
use Rattle.pbs_names.specs.Forms.{expr_of, form}
use Rattle.pbs_names.specs.Forms as forms
use Rattle.pbs_expand.specs.declared.parts.Pairing.{Pairing}
use Rattle.pbs_expand.specs.declared.parts.Pairing.TheVariants.{Sequence, Choice}
use Rattle.pbs_expand.specs.declared.parts.Part as part_types
use Rattle.pbs_expand.specs.declared.parts.Part.TheVariants as parts
use Rattle.pbs_expand.specs.declared.parts.Shape as shape_types
use Rattle.pbs_expand.specs.declared.parts.Shape.TheVariants as shapes

-- what is visited: an expression, or a node that the expansion makes
pub data Part : Type 0 where
  Whole : (e : Expr) → Part
  -- two or more items of a sequence or a choice
  Run : (by : Pairing) (items : List Expr) → Part
  Nothing : (span : Span) → Part
  -- the star that a plus makes
  Starred : (span : Span) (e : Expr) → Part
  -- k copies, up to k copies, and one copy with up to k more
  Copies : (span : Span) (e : Expr) (k : ℕ) → Part
  UpTo : (span : Span) (e : Expr) (k : ℕ) → Part
  Further : (span : Span) (e : Expr) (k : ℕ) → Part

-- a node with its parts
pub data Shape : Type 0 where
  Empty : (span : Span) → Shape
  Terminal : (span : Span) (term : SpecTerm) → Shape
  Action : (span : Span) (name : List ℕ) → Shape
  Name : (span : Span) (body : Part) → Shape
  Star : (span : Span) (body : Part) → Shape
  Hold : (span : Span) (term : SpecTerm) (body : Part) → Shape
  Pair : (span : Span) (by : Pairing) (first second : Part) → Shape
  Scope : (span : Span) (body trap after : Part) → Shape

abbrev pub part_of : part_types.Part → Part
part_of (parts.Whole e) = Whole e.now
part_of (parts.Run by items) = Run by items.now
part_of (parts.Nothing span) = Nothing span
part_of (parts.Starred span e) = Starred span e.now
part_of (parts.Copies span e k) = Copies span e.now k
part_of (parts.UpTo span e k) = UpTo span e.now k
part_of (parts.Further span e k) = Further span e.now k

abbrev pub shape_of : shape_types.Shape → Shape
shape_of (shapes.Empty span) = Empty span
shape_of (shapes.Terminal span t) = Terminal span t.now
shape_of (shapes.Action span name) = Action span name.now
shape_of (shapes.Name span body) = Name span (part_of body)
shape_of (shapes.Star span body) = Star span (part_of body)
shape_of (shapes.Hold span t body) = Hold span t.now (part_of body)
shape_of (shapes.Pair span by first second) = Pair span by (part_of first) (part_of second)
shape_of (shapes.Scope span body trap after) = Scope span (part_of body) (part_of trap) (part_of after)

-- one item is itself
abbrev pub run_part : Pairing → List Expr → Part
run_part by (e ∷ []) = Whole e
run_part by items = Run by items

-- the left part holds the first (n + 1) / 2 items, and the right part the rest
abbrev pub halves : Span → Pairing → List Expr → Shape
halves span by items =
    let half = (length items + 1) / 2 in
    Pair span by (run_part by (take half items)) (run_part by (drop half items))

abbrev pub listed_shape : Span → Pairing → List Expr → Shape
listed_shape span by [] = Empty span
listed_shape span by (e ∷ es) = halves span by (e ∷ es)

abbrev pub start_at : Option Expr → ℕ
start_at (Some e) = e.span.start
start_at None = 0

abbrev pub end_at : Option Expr → ℕ
end_at (Some e) = e.span.end
end_at None = 0

-- from the start of the first item to the end of the last one
abbrev pub run_span : List Expr → Span
run_span items = record { start = start_at (slice_get items 0); end = end_at (slice_get items (length items - 1)) }

-- F: k copies in sequence
abbrev pub copies_part : Span → Expr → ℕ → Part
copies_part span e k = if nat_eq k 1 then Whole e else Copies span e k

abbrev pub copies_shape : Span → Expr → ℕ → Shape
copies_shape span e k =
    let half = (k + 1) / 2 in Pair span Sequence (copies_part span e half) (copies_part span e (k - half))

-- O: at most k copies
abbrev pub upto_shape : Span → Expr → ℕ → Shape
upto_shape span e k =
    Pair span Choice (if nat_le k 1 then Whole e else Further span e (k - 1)) (Nothing span)

abbrev pub repeat_shape : Span → Expr → ℕ → ℕ → Shape
repeat_shape span e m n =
    if nat_eq m n then copies_shape span e m
    else if nat_eq m 0 then upto_shape span e n
    else Pair span Sequence (copies_part span e m) (UpTo span e (n - m))

abbrev pub named_shape : Span → Option Expr → Shape
named_shape span (Some body) = Name span (Whole body)
named_shape span None = Empty span

abbrev pub form_shape : List Prod → Span → forms.Form → Shape
form_shape prods span forms.Empty = Empty span
form_shape prods span (forms.Terminal t) = Terminal span t
form_shape prods span (forms.Action name at) = Action span name
form_shape prods span (forms.Seq items) = listed_shape span Sequence items
form_shape prods span (forms.Choice items) = listed_shape span Choice items
form_shape prods span (forms.Star e) = Star span (Whole e)
form_shape prods span (forms.Plus e) = Pair span Sequence (Whole e) (Starred span e)
form_shape prods span (forms.Opt e) = Pair span Choice (Whole e) (Nothing span)
form_shape prods span (forms.Hold t e) = Hold span t (Whole e)
form_shape prods span (forms.Scope e x h) = Scope span (Whole e) (Whole x) (Whole h)
form_shape prods span (forms.Name name) = named_shape span (body_of prods name)
form_shape prods span (forms.Repeat e m n) = repeat_shape span e m n

abbrev pub expr_shape : List Prod → Expr → Shape
expr_shape prods e = form_shape prods e.span (form e)

-- a list of one member is that member, and so is one copy
abbrev mutual
  pub stripped_from : Span → kind.Kind → Expr
  stripped_from span (kind.Seq' n row) = stripped_row (expr_of span (kind.Seq' n row)) row
  stripped_from span (kind.Choice' n row) = stripped_row (expr_of span (kind.Choice' n row)) row
  stripped_from span (kind.Repeat' p s e m n) =
      if nat_eq m 1 then (if nat_eq n 1 then stripped_from s e else expr_of span (kind.Repeat' p s e m n))
      else expr_of span (kind.Repeat' p s e m n)
  stripped_from span k = expr_of span k

  pub stripped_row : {n : _} → Expr → Row_of-Expr n → Expr
  stripped_row all (more_of-Expr s e end_of-Expr) = stripped_from s e
  stripped_row all _ = all

abbrev pub stripped : Expr → Expr
stripped e = stripped_from e.span e.kind

-- the span of what is visited
abbrev pub span_of : Part → Span
span_of (Whole e) = (stripped e).span
span_of (Run by items) = run_span items
span_of (Nothing span) = span
span_of (Starred span e) = span
span_of (Copies span e k) = span
span_of (UpTo span e k) = span
span_of (Further span e k) = span

-- the node that is visited, with its parts
abbrev pub shape : List Prod → Part → Shape
shape prods (Whole e) = expr_shape prods (stripped e)
shape prods (Run by items) = halves (run_span items) by items
shape prods (Nothing span) = Empty span
shape prods (Starred span e) = Star span (Whole e)
shape prods (Copies span e k) = copies_shape span e k
shape prods (UpTo span e k) = upto_shape span e k
shape prods (Further span e k) = Pair span Sequence (Whole e) (UpTo span e k)
