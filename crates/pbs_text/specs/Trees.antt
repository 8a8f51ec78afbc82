-- What a phrase stands for: its tree, with spans. A span gives the bytes of a word.
use Rattle.std.specs.Prelude.{ℕ, ◌-◌, Bool, true, false, List, [], ◌∷◌, ◌++◌, take, drop}
use Rattle.pbs_base.specs.declared.refusal.Span.{Span}
use Rattle.pbs_ast.specs.declared.syntax.SpecTerm as term
use Rattle.pbs_ast.specs.declared.syntax.SpecTerm.{SpecTerm}
use Rattle.pbs_ast.specs.declared.syntax.Kind as kind
use Rattle.pbs_ast.specs.declared.syntax.Kind.{Kind}
use Rattle.pbs_ast.specs.declared.syntax.Expr.{Expr}
use Rattle.pbs_ast.specs.declared.syntax.Decl.{Decl}
use Rattle.pbs_ast.specs.declared.syntax.Set.{Set}
use Rattle.pbs_ast.specs.declared.syntax.Level.{Level}
use Rattle.pbs_ast.specs.declared.syntax.Prod.{Prod}
use Rattle.pbs_ast.specs.declared.syntax.Spec.{Spec}
use Rattle.pbs_text.specs.declared.token.Operator.{Operator}
use Rattle.pbs_text.specs.declared.token.Operator.TheVariants.{StarOp, PlusOp, OptOp}
use Rattle.pbs_ast.specs.Bare.{no_place, expr}
use Rattle.pbs_text.specs.Grammar.{Numeral, ZeroNumeral, OneNumeral, TwoNumeral, DigitNumeral, LongNumeral, Width}
use Rattle.pbs_text.specs.Grammar.{OneBit, TwoBits, MoreBits, UnitPhrase, Negated, Bracketed, Named, Bit, Compared}
use Rattle.pbs_text.specs.Grammar.{AllPhrase, OneUnit, MoreUnits, TermPhrase, OneAll, MoreAlls, ExprPhrase, OneSeq}
use Rattle.pbs_text.specs.Grammar.{MoreSeqs, SeqPhrase, OneItem, MoreItems, ItemPhrase, Plain, Repeated, Counted}
use Rattle.pbs_text.specs.Grammar.{PrimPhrase, Terminal, Action, Call, Grouped, Hold, Try, GroupPhrase, EmptyGroup}
use Rattle.pbs_text.specs.Grammar.{FullGroup, InputPhrase, OneWire, Bus, InputsPhrase, OneInput, MoreInputs}
use Rattle.pbs_text.specs.Grammar.{NamesPhrase, OneName, MoreNames, SetsPhrase, NoSets, MoreSets, DeclPhrase, InputDecl}
use Rattle.pbs_text.specs.Grammar.{ActionDecl, LevelDecl, ProdDecl, DeclsPhrase, NoDecls, MoreDecls, SpecPhrase}
use Rattle.pbs_text.specs.Grammar.{TextPhrase, OfVersion}

abbrev pub numeral_value : Numeral → ℕ
numeral_value ZeroNumeral = 0
numeral_value OneNumeral = 1
numeral_value TwoNumeral = 2
numeral_value (DigitNumeral n) = n
numeral_value (LongNumeral n) = n

abbrev pub width_value : Width → ℕ
width_value OneBit = 1
width_value TwoBits = 2
width_value (MoreBits n) = n

-- the bytes of a span
abbrev pub word_at : List ℕ → Span → List ℕ
word_at bytes at = take (at.end - at.start) (drop at.start bytes)

-- from the first byte of one span to the last of another
abbrev pub joined : Span → Span → Span
joined first last = record { start = first.start; end = last.end }

-- one item is itself
abbrev pub one_or : {A : Type 0} → List A → A → A
one_or (x ∷ []) node = x
one_or _ node = node

-- ---- terms

abbrev pub all_node : List SpecTerm → SpecTerm
all_node items = one_or items (term.All items)

abbrev pub any_node : List SpecTerm → SpecTerm
any_node items = one_or items (term.Any items)

-- brackets make no node
abbrev mutual
  pub unit_tree : {two : Bool} → List ℕ → UnitPhrase two → SpecTerm
  unit_tree bytes (Negated at u) = term.Not' no_place (unit_tree bytes u)
  unit_tree bytes (Bracketed o t c) = any_node (term_items bytes t)
  unit_tree bytes (Named at) = term.Name (word_at bytes at) at
  unit_tree bytes (Bit b at) = term.Const b
  unit_tree bytes (Compared s at e n to) = term.Equal (word_at bytes at) at (numeral_value n) to

  pub all_items : {two : Bool} → List ℕ → AllPhrase two → List SpecTerm
  all_items bytes (OneUnit u) = unit_tree bytes u ∷ []
  all_items bytes (MoreUnits a at u) = all_items bytes a ++ unit_tree bytes u ∷ []

  pub term_items : {two : Bool} → List ℕ → TermPhrase two → List SpecTerm
  term_items bytes (OneAll a) = all_node (all_items bytes a) ∷ []
  term_items bytes (MoreAlls t at a) = term_items bytes t ++ all_node (all_items bytes a) ∷ []

abbrev pub all_tree : {two : Bool} → List ℕ → AllPhrase two → SpecTerm
all_tree bytes a = all_node (all_items bytes a)

abbrev pub term_tree : {two : Bool} → List ℕ → TermPhrase two → SpecTerm
term_tree bytes t = any_node (term_items bytes t)

-- ---- expressions: the whole of a phrase, its brackets included, and its node

abbrev pub group_extent : {two : Bool} → GroupPhrase two → Span
group_extent (EmptyGroup o c) = joined o c
group_extent (FullGroup o e c) = joined o c

abbrev pub prim_extent : {two : Bool} → PrimPhrase two → Span
prim_extent (Terminal o t c) = joined o c
prim_extent (Action o n c) = joined o c
prim_extent (Call at) = at
prim_extent (Grouped g) = group_extent g
prim_extent (Hold at o t c colon g) = joined at (group_extent g)
prim_extent (Try at body a trap th after) = joined at (group_extent after)

abbrev pub item_extent : {two : Bool} → ItemPhrase two → Span
item_extent (Plain p) = prim_extent p
item_extent (Repeated p op at) = joined (prim_extent p) at
item_extent (Counted s p o m a c n b close) = joined (prim_extent p) close

abbrev pub seq_extent : {two : Bool} → SeqPhrase two → Span
seq_extent (OneItem i) = item_extent i
seq_extent (MoreItems s at i) = joined (seq_extent s) (item_extent i)

abbrev pub expr_extent : {two : Bool} → ExprPhrase two → Span
expr_extent (OneSeq s) = seq_extent s
expr_extent (MoreSeqs e at s) = joined (expr_extent e) (seq_extent s)

abbrev pub seq_node : List Expr → Span → Expr
seq_node items at = one_or items (expr at (kind.Seq items))

abbrev pub choice_node : List Expr → Span → Expr
choice_node items at = one_or items (expr at (kind.Choice items))

abbrev pub operator_node : Operator → Expr → Kind
operator_node StarOp e = kind.Star' no_place e.span e.kind
operator_node PlusOp e = kind.Plus' no_place e.span e.kind
operator_node OptOp e = kind.Opt' no_place e.span e.kind

abbrev pub repeat_node : Expr → ℕ → ℕ → Kind
repeat_node e m n = kind.Repeat' no_place e.span e.kind m n

abbrev pub hold_node : SpecTerm → Expr → Kind
hold_node t e = kind.Hold' t no_place e.span e.kind

abbrev pub scope_node : Expr → Expr → Expr → Kind
scope_node e x h = kind.Scope' no_place e.span e.kind no_place x.span x.kind no_place h.span h.kind

-- a group is the tree inside it
abbrev mutual
  pub expr_items : {two : Bool} → List ℕ → ExprPhrase two → List Expr
  expr_items bytes (OneSeq s) = seq_node (seq_items bytes s) (seq_extent s) ∷ []
  expr_items bytes (MoreSeqs e at s) = expr_items bytes e ++ seq_node (seq_items bytes s) (seq_extent s) ∷ []

  pub seq_items : {two : Bool} → List ℕ → SeqPhrase two → List Expr
  seq_items bytes (OneItem i) = item_tree bytes i ∷ []
  seq_items bytes (MoreItems s at i) = seq_items bytes s ++ item_tree bytes i ∷ []

  pub item_tree : {two : Bool} → List ℕ → ItemPhrase two → Expr
  item_tree bytes (Plain p) = prim_tree bytes p
  item_tree bytes (Repeated p op at) = expr (joined (prim_extent p) at) (operator_node op (prim_tree bytes p))
  item_tree bytes (Counted s p o m a c n b close) =
      expr (joined (prim_extent p) close) (repeat_node (prim_tree bytes p) (numeral_value m) (numeral_value n))

  pub prim_tree : {two : Bool} → List ℕ → PrimPhrase two → Expr
  prim_tree bytes (Terminal o t c) = expr (joined o c) (kind.Terminal (term_tree bytes t))
  prim_tree bytes (Action o n c) = expr (joined o c) (kind.Action (word_at bytes n) n)
  prim_tree bytes (Call at) = expr at (kind.Name (word_at bytes at))
  prim_tree bytes (Grouped g) = group_tree bytes g
  prim_tree bytes (Hold at o t c colon g) = expr (joined at (group_extent g))
      (hold_node (term_tree bytes t) (group_tree bytes g))
  prim_tree bytes (Try at body a trap th after) =
      expr (joined at (group_extent after)) (scope_node (group_tree bytes body) (group_tree bytes trap)
      (group_tree bytes after))

  pub group_tree : {two : Bool} → List ℕ → GroupPhrase two → Expr
  group_tree bytes (EmptyGroup o c) = expr (joined o c) kind.Empty
  group_tree bytes (FullGroup o e c) = choice_node (expr_items bytes e) (expr_extent e)

abbrev pub seq_tree : {two : Bool} → List ℕ → SeqPhrase two → Expr
seq_tree bytes s = seq_node (seq_items bytes s) (seq_extent s)

abbrev pub expr_tree : {two : Bool} → List ℕ → ExprPhrase two → Expr
expr_tree bytes e = choice_node (expr_items bytes e) (expr_extent e)

-- ---- declarations

abbrev pub declared : List ℕ → Span → ℕ → Decl
declared bytes at width = record { name = word_at bytes at; span = at; width = width }

abbrev pub input_of : {two : Bool} → List ℕ → InputPhrase two → Decl
input_of bytes (OneWire at) = declared bytes at 0
input_of bytes (Bus s at c w to) = declared bytes at (width_value w)

abbrev pub inputs_of : {two : Bool} → List ℕ → InputsPhrase two → List Decl
inputs_of bytes (OneInput i) = input_of bytes i ∷ []
inputs_of bytes (MoreInputs is at i) = inputs_of bytes is ++ input_of bytes i ∷ []

abbrev pub names_of : List ℕ → NamesPhrase → List Decl
names_of bytes (OneName at) = declared bytes at 0 ∷ []
names_of bytes (MoreNames ns c at) = names_of bytes ns ++ declared bytes at 0 ∷ []

abbrev pub sets_of : List ℕ → SetsPhrase → List Set
sets_of bytes NoSets = []
sets_of bytes (MoreSets ss at c b to e) = sets_of bytes ss ++
    record { action = word_at bytes at; span = at; value = b } ∷ []

-- what is declared, each kind in declared order
pub record Declared : Type 0 where
  pub inputs : List Decl
  pub actions : List Decl
  pub levels : List Level
  pub prods : List Prod

abbrev pub nothing_declared : Declared
nothing_declared = record { inputs = []; actions = []; levels = []; prods = [] }

abbrev pub with_decl : {two : Bool} → List ℕ → Declared → DeclPhrase two → Declared
with_decl bytes d (InputDecl at is e) = record d { inputs = d.inputs ++ inputs_of bytes is }
with_decl bytes d (ActionDecl at ns e) = record d { actions = d.actions ++ names_of bytes ns }
with_decl bytes d (LevelDecl at n q b to o ss c) =
    record d {
      levels = d.levels ++ record { name = word_at bytes n; span = n; start = b; sets = sets_of bytes ss } ∷
          [];
    }
with_decl bytes d (ProdDecl at n q e end) =
    record d { prods = d.prods ++ record { name = word_at bytes n; span = n; body = expr_tree bytes e } ∷ [] }

abbrev pub declared_by : {two : Bool} → List ℕ → DeclsPhrase two → Declared
declared_by bytes NoDecls = nothing_declared
declared_by bytes (MoreDecls ds d) = with_decl bytes (declared_by bytes ds) d

abbrev pub version_number : Bool → ℕ
version_number false = 1
version_number true = 2

abbrev pub spec_of : {two : Bool} → List ℕ → SpecPhrase two → Spec
spec_of {two} bytes p = let d = declared_by bytes p.decls in record {
  version = version_number two;
  inputs = d.inputs;
  actions = d.actions;
  levels = d.levels;
  prods = d.prods;
  main = expr_tree bytes p.expr;
}

abbrev pub text_spec : List ℕ → TextPhrase → Spec
text_spec bytes (OfVersion two p) = spec_of bytes p
