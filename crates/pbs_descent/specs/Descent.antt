-- What the functions of the descent promise: on Ok the phrase that was read, on Err the answer of the whole text.
use Rattle.std.specs.Prelude.{ℕ, ◌<◌, Bool, List, [], ◌∷◌, length, ◌≡◌, Option, None, Err}
use Rattle.pbs_base.specs.declared.refusal.Span.{Span}
use Rattle.pbs_base.specs.declared.refusal.Refusal.{Refusal}
use Rattle.pbs_ast.specs.declared.syntax.SpecTerm.{SpecTerm}
use Rattle.pbs_ast.specs.declared.syntax.Expr.{Expr}
use Rattle.pbs_ast.specs.Bare.{no_place}
use Rattle.pbs_text.specs.Grammar.{token, Second, Numeral, numeral_kind, TermPhrase, OneAll, MoreAlls, SeqPhrase}
use Rattle.pbs_text.specs.Grammar.{OneItem, MoreItems, Counted, ExprPhrase, OneSeq, MoreSeqs, PrimPhrase, Try}
use Rattle.pbs_text.specs.Grammar.{GroupPhrase}
use Rattle.pbs_text.specs.Trees.{numeral_value, unit_tree, all_tree, term_tree, all_items, term_items, seq_items}
use Rattle.pbs_text.specs.Trees.{expr_items, group_tree, prim_tree, item_tree, seq_tree, expr_tree, group_extent}
use Rattle.pbs_text.specs.Trees.{prim_extent, item_extent, seq_extent, expr_extent}
use Rattle.pbs_text.specs.places.Holes.{ExprHole, SeqHole, FirstSeq, NextSeq, ItemHole, FirstItem, NextItem, OfHold}
use Rattle.pbs_text.specs.places.Holes.{TermHole, AllHole, FirstAll, NextAll, FirstUnit, expr_nesting, seq_nesting}
use Rattle.pbs_text.specs.places.Holes.{item_nesting, group_nesting, term_nesting, all_nesting, unit_nesting}
use Rattle.pbs_text.specs.places.Places.{Place, WantsItem, WantsGroup, AfterHold, AfterBody, AfterPrim, AfterItem}
use Rattle.pbs_text.specs.places.Places.{WantsLeast, WantsUnit, AfterUnit}
use Rattle.pbs_text.specs.places.Steps.{with_unit, with_group}
use Rattle.pbs_text.specs.places.Reading.{read}
use Rattle.pbs_text.specs.Refusals.{refusal, point}
use Rattle.pbs_text.specs.declared.fail.ReadSpec.{ReadSpec}
use Rattle.pbs_text.specs.declared.fail.ReadSpec.TheVariants.{Memory, Refused}
use Rattle.pbs_text.specs.declared.token.Token.{Token}
use Rattle.pbs_text.specs.declared.token.TokenKind.{TokenKind}
use Rattle.pbs_text.specs.declared.token.TokenKind.TheVariants.{Star, Plus, Question}
use Rattle.pbs_ast.specs.declared.syntax.SpecTerm as node

-- the first token is of this kind
abbrev pub BeginsWith : TokenKind → List Token → Type 0
BeginsWith k [] = ⊥
BeginsWith k (t ∷ ts) = t.kind ≡ k

-- the first token, if there is one, is of no kind that stands for something
abbrev pub NoFront : {A : Type 0} → (TokenKind → Option A) → List Token → Type 0
NoFront of [] = Unit {0}
NoFront of (t ∷ ts) = of t.kind ≡ None

-- the refusal at the first token, or at the end
abbrev pub front_refusal : ℕ → List Token → Refusal
front_refusal end [] = refusal 3 (point end)
front_refusal end (t ∷ ts) = refusal 3 t.span

-- In each hole of this nesting, a phrase with this value was read, and the text goes on behind it.
pub record Reads {H P X : Type 0} (nesting : H → ℕ) (wanted : H → Place) (behind : P → H → Place) (value : P → X)
    (end depth : ℕ) (old : List Token) (x : X) (new : List Token) : Type 0 where
  pub phrase : P
  pub value_is : x ≡ value phrase
  pub goes_on : (h : H) → nesting h ≡ depth → read end (wanted h) old ≡ read end (behind phrase h) new
  pub shorter : length new < length old

-- The same, with the whole of the phrase, its brackets included.
pub record ReadsWhole {H P X : Type 0} (nesting : H → ℕ) (wanted : H → Place) (behind : P → H → Place) (value : P → X)
    (extent : P → Span)
    (end depth : ℕ) (old : List Token) (x : X) (at : Span) (new : List Token) : Type 0 where
  pub phrase : P
  pub value_is : x ≡ value phrase
  pub extent_is : at ≡ extent phrase
  pub goes_on : (h : H) → nesting h ≡ depth → read end (wanted h) old ≡ read end (behind phrase h) new
  pub shorter : length new < length old

-- In each hole of this nesting the text is refused so, unless memory ran out.
abbrev pub Stops : {H : Type 0} → (H → ℕ) → (H → Place) → ℕ → ℕ → List Token → ReadSpec → Type 0
Stops nesting wanted end depth old Memory = Unit {0}
Stops {H} nesting wanted end depth old (Refused r) = (h : H) → nesting h ≡ depth → read end (wanted h) old ≡ Err r

abbrev pub behind_term : {two : Bool} → TermPhrase two → TermHole two → Place
behind_term (OneAll a) h = AfterUnit a (FirstAll h)
behind_term (MoreAlls t at a) h = AfterUnit a (NextAll t at h)

abbrev pub behind_seq : {two : Bool} → SeqPhrase two → SeqHole two → Place
behind_seq (OneItem i) h = AfterItem i (FirstItem h)
behind_seq (MoreItems s at i) h = AfterItem i (NextItem s at h)

abbrev pub behind_expr : {two : Bool} → ExprPhrase two → ExprHole two → Place
behind_expr (OneSeq s) h = behind_seq s (FirstSeq h)
behind_expr (MoreSeqs e at s) h = behind_seq s (NextSeq e at h)

abbrev pub wants_all : {two : Bool} → AllHole two → Place
wants_all h = WantsUnit (FirstUnit h)

abbrev pub wants_term : {two : Bool} → TermHole two → Place
wants_term h = WantsUnit (FirstUnit (FirstAll h))

abbrev pub wants_seq : {two : Bool} → SeqHole two → Place
wants_seq h = WantsItem (FirstItem h)

abbrev pub wants_expr : {two : Bool} → ExprHole two → Place
wants_expr h = WantsItem (FirstItem (FirstSeq h))

-- ---- for each nonterminal

abbrev pub ReadsUnit : (two : Bool) → List ℕ → ℕ → ℕ → List Token → SpecTerm → List Token → Type 0
ReadsUnit two bytes = Reads (unit_nesting {two = two}) WantsUnit (λ u h. with_unit h u) (unit_tree bytes)

abbrev pub StopsUnit : Bool → ℕ → ℕ → List Token → ReadSpec → Type 0
StopsUnit two = Stops (unit_nesting {two = two}) WantsUnit

abbrev pub ReadsAll : (two : Bool) → List ℕ → ℕ → ℕ → List Token → SpecTerm → List Token → Type 0
ReadsAll two bytes = Reads (all_nesting {two = two}) wants_all AfterUnit (all_tree bytes)

abbrev pub StopsAll : Bool → ℕ → ℕ → List Token → ReadSpec → Type 0
StopsAll two = Stops (all_nesting {two = two}) wants_all

abbrev pub ReadsTerm : (two : Bool) → List ℕ → ℕ → ℕ → List Token → SpecTerm → List Token → Type 0
ReadsTerm two bytes = Reads (term_nesting {two = two}) wants_term behind_term (term_tree bytes)

abbrev pub StopsTerm : Bool → ℕ → ℕ → List Token → ReadSpec → Type 0
StopsTerm two = Stops (term_nesting {two = two}) wants_term

abbrev pub ReadsGroup : (two : Bool) → List ℕ → ℕ → ℕ → List Token → Expr → Span → List Token → Type 0
ReadsGroup two bytes = ReadsWhole (group_nesting {two = two}) WantsGroup (λ g h. with_group h g)
    (group_tree bytes) group_extent

abbrev pub StopsGroup : Bool → ℕ → ℕ → List Token → ReadSpec → Type 0
StopsGroup two = Stops (group_nesting {two = two}) WantsGroup

abbrev pub ReadsPrim : (two : Bool) → List ℕ → ℕ → ℕ → List Token → Expr → Span → List Token → Type 0
ReadsPrim two bytes = ReadsWhole (item_nesting {two = two}) WantsItem AfterPrim (prim_tree bytes) prim_extent

abbrev pub ReadsItem : (two : Bool) → List ℕ → ℕ → ℕ → List Token → Expr → Span → List Token → Type 0
ReadsItem two bytes = ReadsWhole (item_nesting {two = two}) WantsItem AfterItem (item_tree bytes) item_extent

abbrev pub StopsItem : Bool → ℕ → ℕ → List Token → ReadSpec → Type 0
StopsItem two = Stops (item_nesting {two = two}) WantsItem

abbrev pub ReadsSeq : (two : Bool) → List ℕ → ℕ → ℕ → List Token → Expr → Span → List Token → Type 0
ReadsSeq two bytes = ReadsWhole (seq_nesting {two = two}) wants_seq behind_seq (seq_tree bytes) seq_extent

abbrev pub StopsSeq : Bool → ℕ → ℕ → List Token → ReadSpec → Type 0
StopsSeq two = Stops (seq_nesting {two = two}) wants_seq

abbrev pub ReadsExpr : (two : Bool) → List ℕ → ℕ → ℕ → List Token → Expr → Span → List Token → Type 0
ReadsExpr two bytes = ReadsWhole (expr_nesting {two = two}) wants_expr behind_expr (expr_tree bytes) expr_extent

abbrev pub StopsExpr : Bool → ℕ → ℕ → List Token → ReadSpec → Type 0
StopsExpr two = Stops (expr_nesting {two = two}) wants_expr

-- as far as a loop has come: the items in place of the tree
abbrev pub AllSoFar : (two : Bool) → List ℕ → ℕ → ℕ → List Token → List SpecTerm → List Token → Type 0
AllSoFar two bytes = Reads (all_nesting {two = two}) wants_all AfterUnit (all_items bytes)

abbrev pub TermSoFar : (two : Bool) → List ℕ → ℕ → ℕ → List Token → List SpecTerm → List Token → Type 0
TermSoFar two bytes = Reads (term_nesting {two = two}) wants_term behind_term (term_items bytes)

abbrev pub SeqSoFar : (two : Bool) → List ℕ → ℕ → ℕ → List Token → List Expr → Span → List Token → Type 0
SeqSoFar two bytes = ReadsWhole (seq_nesting {two = two}) wants_seq behind_seq (seq_items bytes) seq_extent

abbrev pub ExprSoFar : (two : Bool) → List ℕ → ℕ → ℕ → List Token → List Expr → Span → List Token → Type 0
ExprSoFar two bytes = ReadsWhole (expr_nesting {two = two}) wants_expr behind_expr (expr_items bytes) expr_extent

-- ---- parts of them

abbrev pub negated_term : SpecTerm → SpecTerm
negated_term t = node.Not' no_place t

-- a number, with its value
pub record TakesNumeral (old : List Token) (value : ℕ) (at : Span) (new : List Token) : Type 0 where
  pub numeral : Numeral
  pub value_is : value ≡ numeral_value numeral
  pub taken : old ≡ token (numeral_kind numeral) at ∷ new

-- number ',' number '}' behind '{'
pub record ReadsBounds (end : ℕ) (old : List Token) (least most : ℕ) (close_at : Span) (new : List Token) : Type 0 where
  pub m : Numeral
  pub n : Numeral
  pub least_at : Span
  pub comma_at : Span
  pub most_at : Span
  pub least_is : least ≡ numeral_value m
  pub most_is : most ≡ numeral_value n
  pub goes_on : (two : Bool) (s : Second two) (p : PrimPhrase two) (o : Span) (h : ItemHole two)
      → read end (WantsLeast s p o h) old ≡ read end (AfterItem
      (Counted s p o m least_at comma_at n most_at close_at) h) new
  pub shorter : length new < length old

abbrev pub StopsBounds : ℕ → List Token → ReadSpec → Type 0
StopsBounds end old Memory = Unit {0}
StopsBounds end old (Refused r) = (two : Bool) (s : Second two) (p : PrimPhrase two) (o : Span) (h : ItemHole two)
    → read end (WantsLeast s p o h) old ≡ Err r

-- '[' term ']' ':' behind 'hold'
pub record ReadsGuard (two : Bool) (bytes : List ℕ) (end depth : ℕ) (old : List Token) (x : SpecTerm)
    (new : List Token) : Type 0 where
  pub open_at : Span
  pub phrase : TermPhrase two
  pub close_at : Span
  pub colon_at : Span
  pub value_is : x ≡ term_tree bytes phrase
  pub goes_on : (at : Span) (h : ItemHole two) → item_nesting h ≡ depth
      → read end (AfterHold at h) old ≡ read end (WantsGroup (OfHold at open_at phrase close_at colon_at h)) new

-- 'abort' group 'then' group behind a scope's body
pub record ReadsTrap (two : Bool) (bytes : List ℕ) (end depth : ℕ) (old : List Token) (x y : Expr) (extent : Span)
    (new : List Token) : Type 0 where
  pub abort_at : Span
  pub trap : GroupPhrase two
  pub then_at : Span
  pub after : GroupPhrase two
  pub trap_is : x ≡ group_tree bytes trap
  pub after_is : y ≡ group_tree bytes after
  pub extent_is : extent ≡ group_extent after
  pub goes_on : (at : Span) (body : GroupPhrase two) (h : ItemHole two) → item_nesting h ≡ depth
      → read end (AfterBody at body h) old ≡ read end (AfterPrim (Try at body abort_at trap then_at after) h) new
  pub shorter : length new < length old

abbrev pub StopsTrap : Bool → ℕ → ℕ → List Token → ReadSpec → Type 0
StopsTrap two end depth old Memory = Unit {0}
StopsTrap two end depth old (Refused r) = (at : Span) (body : GroupPhrase two) (h : ItemHole two)
    → item_nesting h ≡ depth → read end (AfterBody at body h) old ≡ Err r

abbrev pub after_hold : {two : Bool} → Span → ItemHole two → Place
after_hold at h = AfterHold at h

-- no operator comes next
abbrev pub NoOperator : List Token → Type 0
NoOperator ts = (BeginsWith Star ts → ⊥) × (BeginsWith Plus ts → ⊥) × (BeginsWith Question ts → ⊥)
