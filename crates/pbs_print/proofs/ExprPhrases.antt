-- The phrase of an expression's canonical text.
use Rattle.std.proofs.Common.{◌≡◌, ℕ, suc, ◌≤◌, List, [], ◌∷◌, ◌++◌, length, map, Bool, true, refl, sym, ap, subst, ◌∙◌}
use Rattle.std.proofs.Common.{append_assoc, append-nil, arith}
use Rattle.std.specs.Prelude.{not}
use Rattle.pbs_base.specs.declared.refusal.Span.{Span}
use Rattle.pbs_ast.specs.declared.syntax.SpecTerm.{SpecTerm}
use Rattle.pbs_ast.specs.declared.syntax.Expr.{Expr}
use Rattle.pbs_ast.specs.declared.syntax.Kind as node
use Rattle.pbs_ast.specs.declared.syntax.Kind.{Kind, Row_of-Expr, end_of-Expr, more_of-Expr, items-the_row-Expr}
use Rattle.pbs_ast.specs.declared.syntax.Kind.{items_hidden-the_row-Expr-0}
use Rattle.pbs_ast.specs.declared.syntax.Kind.TheBlock.{hidden-the_row-Expr-0}
use Rattle.pbs_text.specs.declared.token.Token.{Token}
use Rattle.pbs_text.specs.declared.token.Operator.{Operator}
use Rattle.pbs_text.specs.declared.token.Operator.TheVariants.{StarOp, PlusOp, OptOp}
use Rattle.pbs_text.specs.declared.token.TokenKind.TheVariants as kind
use Rattle.pbs_ast.specs.Bare.{no_place, expr}
use Rattle.pbs_text.specs.Grammar.{token, Second, numeral_kind, operator_kind, ExprPhrase, OneSeq, MoreSeqs, SeqPhrase}
use Rattle.pbs_text.specs.Grammar.{OneItem, MoreItems, ItemPhrase, Plain, Repeated, Counted, PrimPhrase, Terminal}
use Rattle.pbs_text.specs.Grammar.{Action, Call, Grouped, Hold, Try, GroupPhrase, EmptyGroup, FullGroup, term_tokens}
use Rattle.pbs_text.specs.Grammar.{expr_tokens, seq_tokens, item_tokens, prim_tokens, group_tokens}
use Rattle.pbs_text.specs.Trees.{seq_node, choice_node, operator_node, expr_items, seq_items, item_tree, prim_tree}
use Rattle.pbs_text.specs.Trees.{group_tree, seq_tree, expr_tree}
use Rattle.pbs_print.specs.Canonical.{is_empty, is_choice, is_list, is_wide}
use Rattle.pbs_print.specs.Unspanned.{unspanned_term, unspanned_kind, unspanned_exprs, unspanned_expr, no_span}
use Rattle.pbs_print.proofs.TextPieces.{Piece, Blank, Sign, Stands, wrapped}
use Rattle.pbs_print.proofs.TermPieces.{term_pieces, TermIs}
use Rattle.pbs_print.proofs.TermPhrases.{too_few, none, map-end, either, finds_term}
use Rattle.pbs_print.proofs.ExprPieces.{SeqOf, ChoiceOf, between, bounds_pieces, hold_word, try_word, abort_word}
use Rattle.pbs_print.proofs.ExprPieces.{then_word, kind_pieces, list_pieces, rest_pieces, KindIs, KindsAre}

-- ---- a list of expressions apart from spans

row-unspanned : (n : _) (row : Row_of-Expr n) → unspanned_exprs row ≡ map unspanned_expr (items-the_row-Expr n row)
row-unspanned n end_of-Expr = refl
row-unspanned n (more_of-Expr at e rest) = ap (λ es. expr no_span (unspanned_kind e) ∷ es) (row-unspanned _ rest)

pub unspanned-row : (items : List Expr) → unspanned_exprs (hidden-the_row-Expr-0 items) ≡ map unspanned_expr items
unspanned-row items = row-unspanned _ (hidden-the_row-Expr-0 items)
    ∙ ap (map unspanned_expr) (items_hidden-the_row-Expr-0 items)

seq-node : (items us : List Expr) (at : Span) → map unspanned_expr items ≡ us → 2 ≤ length us
    → unspanned_kind (seq_node items at).kind ≡ node.Seq us
seq-node [] us at e h = absurd (none unspanned_expr us e h)
seq-node (x ∷ []) us at e h = absurd (too_few unspanned_expr x us e h)
seq-node (x ∷ y ∷ items) us at e h = ap node.Seq (unspanned-row (x ∷ y ∷ items) ∙ e)

choice-node : (items us : List Expr) (at : Span) → map unspanned_expr items ≡ us → 2 ≤ length us
    → unspanned_kind (choice_node items at).kind ≡ node.Choice us
choice-node [] us at e h = absurd (none unspanned_expr us e h)
choice-node (x ∷ []) us at e h = absurd (too_few unspanned_expr x us e h)
choice-node (x ∷ y ∷ items) us at e h = ap node.Choice (unspanned-row (x ∷ y ∷ items) ∙ e)

-- ---- what is found at the front of some tokens: a phrase whose tree is u apart from spans

record GroupFound (two : Bool) (bytes : List ℕ) (u : Kind) (z : List Piece) (ts : List Token) : Type 0 where
  phrase : GroupPhrase two
  rest : List Token
  tokens_are : ts ≡ group_tokens phrase ++ rest
  behind : Stands bytes z rest
  same : unspanned_kind (group_tree bytes phrase).kind ≡ u

record PrimFound (two : Bool) (bytes : List ℕ) (u : Kind) (z : List Piece) (ts : List Token) : Type 0 where
  phrase : PrimPhrase two
  rest : List Token
  tokens_are : ts ≡ prim_tokens phrase ++ rest
  behind : Stands bytes z rest
  same : unspanned_kind (prim_tree bytes phrase).kind ≡ u

record ItemFound (two : Bool) (bytes : List ℕ) (u : Kind) (z : List Piece) (ts : List Token) : Type 0 where
  phrase : ItemPhrase two
  rest : List Token
  tokens_are : ts ≡ item_tokens phrase ++ rest
  behind : Stands bytes z rest
  same : unspanned_kind (item_tree bytes phrase).kind ≡ u

record SeqFound (two : Bool) (bytes : List ℕ) (u : Kind) (z : List Piece) (ts : List Token) : Type 0 where
  phrase : SeqPhrase two
  rest : List Token
  tokens_are : ts ≡ seq_tokens phrase ++ rest
  behind : Stands bytes z rest
  same : unspanned_kind (seq_tree bytes phrase).kind ≡ u

pub record ExprFound (two : Bool) (bytes : List ℕ) (u : Kind) (z : List Piece) (ts : List Token) : Type 0 where
  pub phrase : ExprPhrase two
  pub rest : List Token
  pub tokens_are : ts ≡ expr_tokens phrase ++ rest
  pub behind : Stands bytes z rest
  pub same : unspanned_kind (expr_tree bytes phrase).kind ≡ u

abbrev FindsGroup : Bool → List ℕ → List Piece → Kind → Type 0
FindsGroup two bytes ps u = (z : List Piece) (ts : List Token) → Stands bytes (ps ++ z) ts → GroupFound two bytes u z ts

abbrev FindsPrim : Bool → List ℕ → List Piece → Kind → Type 0
FindsPrim two bytes ps u = (z : List Piece) (ts : List Token) → Stands bytes (ps ++ z) ts → PrimFound two bytes u z ts

abbrev FindsItem : Bool → List ℕ → List Piece → Kind → Type 0
FindsItem two bytes ps u = (z : List Piece) (ts : List Token) → Stands bytes (ps ++ z) ts → ItemFound two bytes u z ts

abbrev FindsSeq : Bool → List ℕ → List Piece → Kind → Type 0
FindsSeq two bytes ps u = (z : List Piece) (ts : List Token) → Stands bytes (ps ++ z) ts → SeqFound two bytes u z ts

abbrev pub FindsExpr : Bool → List ℕ → List Piece → Kind → Type 0
FindsExpr two bytes ps u = (z : List Piece) (ts : List Token) → Stands bytes (ps ++ z) ts → ExprFound two bytes u z ts

-- ---- from each level to the next

grouped : (two : Bool) (bytes : List ℕ) (ps : List Piece) (u : Kind) → FindsGroup two bytes ps u
    → FindsPrim two bytes ps u
grouped two bytes ps u f z ts h =
    let x = f z ts h in
    record { phrase = Grouped x.phrase; rest = x.rest; tokens_are = x.tokens_are; behind = x.behind; same = x.same }

plain : (two : Bool) (bytes : List ℕ) (ps : List Piece) (u : Kind) → FindsPrim two bytes ps u → FindsItem two bytes ps u
plain two bytes ps u f z ts h =
    let x = f z ts h in
    record { phrase = Plain x.phrase; rest = x.rest; tokens_are = x.tokens_are; behind = x.behind; same = x.same }

one_item : (two : Bool) (bytes : List ℕ) (ps : List Piece) (u : Kind) → FindsItem two bytes ps u
    → FindsSeq two bytes ps u
one_item two bytes ps u f z ts h =
    let x = f z ts h in
    record { phrase = OneItem x.phrase; rest = x.rest; tokens_are = x.tokens_are; behind = x.behind; same = x.same }

one_seq : (two : Bool) (bytes : List ℕ) (ps : List Piece) (u : Kind) → FindsSeq two bytes ps u
    → FindsExpr two bytes ps u
one_seq two bytes ps u f z ts h =
    let x = f z ts h in
    record { phrase = OneSeq x.phrase; rest = x.rest; tokens_are = x.tokens_are; behind = x.behind; same = x.same }

full : (two : Bool) (bytes : List ℕ) (ps : List Piece) (u : Kind) → FindsExpr two bytes ps u
    → FindsGroup two bytes (wrapped true ps) u
full two bytes ps u f z ts h =
    let x = f (Sign 41 kind.CloseRound ∷ z) h.1
    (subst (λ l. Stands bytes l h.1) (append_assoc ps (Sign 41 kind.CloseRound ∷ []) z) h.3) in
    let e = x.behind in
    record {
      phrase = FullGroup h.0 x.phrase e.0;
      rest = e.1;
      tokens_are = h.2 ∙ ap (λ l. token kind.OpenRound h.0 ∷ l)
          (x.tokens_are ∙ (ap (λ l. expr_tokens x.phrase ++ l) e.2
          ∙ sym (append_assoc (expr_tokens x.phrase) (token kind.CloseRound e.0 ∷ []) e.1)));
      behind = e.3;
      same = x.same;
    }

empty_group : (two : Bool) (bytes : List ℕ) → FindsGroup two bytes (kind_pieces node.Empty) node.Empty
empty_group two bytes z ts h =
    record {
      phrase = EmptyGroup h.0 h.3.0;
      rest = h.3.1;
      tokens_are = h.2 ∙ ap (λ l. token kind.OpenRound h.0 ∷ l) h.3.2;
      behind = h.3.3;
      same = refl;
    }

-- an expression without brackets round it
abbrev Finds : Bool → List ℕ → Kind → Type 0
Finds two bytes (node.Seq' n row) = FindsSeq two bytes (list_pieces SeqOf row) (node.Seq (unspanned_exprs row))
Finds two bytes (node.Choice' n row) = FindsExpr two bytes (list_pieces ChoiceOf row)
    (node.Choice (unspanned_exprs row))
Finds two bytes (node.Star' p at e) =
    FindsItem two bytes (kind_pieces (node.Star' p at e)) (unspanned_kind (node.Star' p at e))
Finds two bytes (node.Plus' p at e) =
    FindsItem two bytes (kind_pieces (node.Plus' p at e)) (unspanned_kind (node.Plus' p at e))
Finds two bytes (node.Opt' p at e) =
    FindsItem two bytes (kind_pieces (node.Opt' p at e)) (unspanned_kind (node.Opt' p at e))
Finds two bytes (node.Repeat' p at e m n) =
    FindsItem two bytes (kind_pieces (node.Repeat' p at e m n)) (unspanned_kind (node.Repeat' p at e m n))
Finds two bytes e = FindsPrim two bytes (kind_pieces e) (unspanned_kind e)

item_expr : (two : Bool) (bytes : List ℕ) (ps : List Piece) (u : Kind) → FindsItem two bytes ps u
    → FindsExpr two bytes ps u
item_expr two bytes ps u f = one_seq two bytes ps u (one_item two bytes ps u f)

-- an expression with the brackets that it needs at each level
expr_of : (two : Bool) (bytes : List ℕ) (e : Kind) → Finds two bytes e
    → FindsExpr two bytes (kind_pieces e) (unspanned_kind e)
expr_of two bytes (node.Seq' n row) f =
    one_seq two bytes (kind_pieces (node.Seq' n row)) (unspanned_kind (node.Seq' n row)) f
expr_of two bytes (node.Choice' n row) f = f
expr_of two bytes (node.Star' p at e) f =
    item_expr two bytes (kind_pieces (node.Star' p at e)) (unspanned_kind (node.Star' p at e)) f
expr_of two bytes (node.Plus' p at e) f =
    item_expr two bytes (kind_pieces (node.Plus' p at e)) (unspanned_kind (node.Plus' p at e)) f
expr_of two bytes (node.Opt' p at e) f =
    item_expr two bytes (kind_pieces (node.Opt' p at e)) (unspanned_kind (node.Opt' p at e)) f
expr_of two bytes (node.Repeat' p at e i j) f =
    item_expr two bytes (kind_pieces (node.Repeat' p at e i j)) (unspanned_kind (node.Repeat' p at e i j)) f
expr_of two bytes e f =
    item_expr two bytes (kind_pieces e) (unspanned_kind e) (plain two bytes (kind_pieces e) (unspanned_kind e) f)

in_group : (two : Bool) (bytes : List ℕ) (e : Kind) → Finds two bytes e
    → FindsGroup two bytes (wrapped true (kind_pieces e)) (unspanned_kind e)
in_group two bytes e f = full two bytes (kind_pieces e) (unspanned_kind e) (expr_of two bytes e f)

in_prim : (two : Bool) (bytes : List ℕ) (e : Kind) → Finds two bytes e
    → FindsPrim two bytes (wrapped true (kind_pieces e)) (unspanned_kind e)
in_prim two bytes e f = grouped two bytes (wrapped true (kind_pieces e)) (unspanned_kind e) (in_group two bytes e f)

in_item : (two : Bool) (bytes : List ℕ) (e : Kind) → Finds two bytes e
    → FindsItem two bytes (wrapped true (kind_pieces e)) (unspanned_kind e)
in_item two bytes e f = plain two bytes (wrapped true (kind_pieces e)) (unspanned_kind e) (in_prim two bytes e f)

group_of : (two : Bool) (bytes : List ℕ) (e : Kind) → Finds two bytes e
    → FindsGroup two bytes (wrapped (not (is_empty e)) (kind_pieces e)) (unspanned_kind e)
group_of two bytes node.Empty f = empty_group two bytes
group_of two bytes e f = in_group two bytes e f

prim_of : (two : Bool) (bytes : List ℕ) (e : Kind) → Finds two bytes e
    → FindsPrim two bytes (wrapped (is_wide e) (kind_pieces e)) (unspanned_kind e)
prim_of two bytes (node.Seq' n row) f = in_prim two bytes (node.Seq' n row) f
prim_of two bytes (node.Choice' n row) f = in_prim two bytes (node.Choice' n row) f
prim_of two bytes (node.Star' p at e) f = in_prim two bytes (node.Star' p at e) f
prim_of two bytes (node.Plus' p at e) f = in_prim two bytes (node.Plus' p at e) f
prim_of two bytes (node.Opt' p at e) f = in_prim two bytes (node.Opt' p at e) f
prim_of two bytes (node.Repeat' p at e m n) f = in_prim two bytes (node.Repeat' p at e m n) f
prim_of two bytes e f = f

item_of : (two : Bool) (bytes : List ℕ) (e : Kind) → Finds two bytes e
    → FindsItem two bytes (wrapped (is_list e) (kind_pieces e)) (unspanned_kind e)
item_of two bytes (node.Seq' n row) f = in_item two bytes (node.Seq' n row) f
item_of two bytes (node.Choice' n row) f = in_item two bytes (node.Choice' n row) f
item_of two bytes (node.Star' p at e) f = f
item_of two bytes (node.Plus' p at e) f = f
item_of two bytes (node.Opt' p at e) f = f
item_of two bytes (node.Repeat' p at e m n) f = f
item_of two bytes e f = plain two bytes (kind_pieces e) (unspanned_kind e) f

seq_of : (two : Bool) (bytes : List ℕ) (e : Kind) → Finds two bytes e
    → FindsSeq two bytes (wrapped (is_choice e) (kind_pieces e)) (unspanned_kind e)
seq_of two bytes (node.Seq' n row) f = f
seq_of two bytes (node.Choice' n row) f =
    one_item two bytes (wrapped true (kind_pieces (node.Choice' n row))) (unspanned_kind (node.Choice' n row))
    (in_item two bytes (node.Choice' n row) f)
seq_of two bytes (node.Star' p at e) f =
    one_item two bytes (kind_pieces (node.Star' p at e)) (unspanned_kind (node.Star' p at e)) f
seq_of two bytes (node.Plus' p at e) f =
    one_item two bytes (kind_pieces (node.Plus' p at e)) (unspanned_kind (node.Plus' p at e)) f
seq_of two bytes (node.Opt' p at e) f =
    one_item two bytes (kind_pieces (node.Opt' p at e)) (unspanned_kind (node.Opt' p at e)) f
seq_of two bytes (node.Repeat' p at e m n) f =
    one_item two bytes (kind_pieces (node.Repeat' p at e m n)) (unspanned_kind (node.Repeat' p at e m n)) f
seq_of two bytes e f = one_item two bytes (kind_pieces e) (unspanned_kind e)
    (plain two bytes (kind_pieces e) (unspanned_kind e) f)

-- ---- lists

record SeqMore (two : Bool) (bytes : List ℕ) (a : SeqPhrase two) (us : List Expr) (z : List Piece)
    (ts : List Token) : Type 0 where
  phrase : SeqPhrase two
  rest : List Token
  tokens_are : seq_tokens a ++ ts ≡ seq_tokens phrase ++ rest
  behind : Stands bytes z rest
  same : map unspanned_expr (seq_items bytes phrase) ≡ map unspanned_expr (seq_items bytes a) ++ us

record ChoiceMore (two : Bool) (bytes : List ℕ) (a : ExprPhrase two) (us : List Expr) (z : List Piece)
    (ts : List Token) : Type 0 where
  phrase : ExprPhrase two
  rest : List Token
  tokens_are : expr_tokens a ++ ts ≡ expr_tokens phrase ++ rest
  behind : Stands bytes z rest
  same : map unspanned_expr (expr_items bytes phrase) ≡ map unspanned_expr (expr_items bytes a) ++ us

record SeqItems (two : Bool) (bytes : List ℕ) (us : List Expr) (z : List Piece) (ts : List Token) : Type 0 where
  phrase : SeqPhrase two
  rest : List Token
  tokens_are : ts ≡ seq_tokens phrase ++ rest
  behind : Stands bytes z rest
  same : map unspanned_expr (seq_items bytes phrase) ≡ us

record ChoiceItems (two : Bool) (bytes : List ℕ) (us : List Expr) (z : List Piece) (ts : List Token) : Type 0 where
  phrase : ExprPhrase two
  rest : List Token
  tokens_are : ts ≡ expr_tokens phrase ++ rest
  behind : Stands bytes z rest
  same : map unspanned_expr (expr_items bytes phrase) ≡ us

next_item : (two : Bool) (bytes : List ℕ) (e : Kind) (us : List Expr) (more z : List Piece) (a : SeqPhrase two)
    (ts : List Token) → FindsItem two bytes (wrapped (is_list e) (kind_pieces e)) (unspanned_kind e)
    → ((b : SeqPhrase two) (rest : List Token) → Stands bytes (more ++ z) rest → SeqMore two bytes b us z rest)
    → Stands bytes ((between SeqOf ++ (wrapped (is_list e) (kind_pieces e) ++ more)) ++ z) ts
    → SeqMore two bytes a (expr no_span (unspanned_kind e) ∷ us) z ts
next_item two bytes e us more z a ts f on h =
    let w : List Piece = wrapped (is_list e) (kind_pieces e) in
    let x = f (more ++ z) h.1 (subst (λ l. Stands bytes l h.1) (append_assoc w more z) h.3) in
    let b : SeqPhrase two = MoreItems a h.0 x.phrase in
    let r = on b x.rest x.behind in
    record {
      phrase = r.phrase;
      rest = r.rest;
      tokens_are = ap (λ l. seq_tokens a ++ l) (h.2 ∙ ap (λ l. token kind.Comma h.0 ∷ l) x.tokens_are)
          ∙ (sym (append_assoc (seq_tokens a) (token kind.Comma h.0 ∷ item_tokens x.phrase) x.rest) ∙ r.tokens_are);
      behind = r.behind;
      same = r.same ∙ map-end unspanned_expr (seq_items bytes a) (item_tree bytes x.phrase)
          (expr no_span (unspanned_kind e)) us (ap (λ k. expr no_span k) x.same);
    }

next_seq : (two : Bool) (bytes : List ℕ) (e : Kind) (us : List Expr) (more z : List Piece) (a : ExprPhrase two)
    (ts : List Token) → FindsSeq two bytes (wrapped (is_choice e) (kind_pieces e)) (unspanned_kind e)
    → ((b : ExprPhrase two) (rest : List Token) → Stands bytes (more ++ z) rest → ChoiceMore two bytes b us z rest)
    → Stands bytes ((between ChoiceOf ++ (wrapped (is_choice e) (kind_pieces e) ++ more)) ++ z) ts
    → ChoiceMore two bytes a (expr no_span (unspanned_kind e) ∷ us) z ts
next_seq two bytes e us more z a ts f on h =
    let w : List Piece = wrapped (is_choice e) (kind_pieces e) in
    let x = f (more ++ z) h.1 (subst (λ l. Stands bytes l h.1) (append_assoc w more z) h.3) in
    let b : ExprPhrase two = MoreSeqs a h.0 x.phrase in
    let r = on b x.rest x.behind in
    record {
      phrase = r.phrase;
      rest = r.rest;
      tokens_are = ap (λ l. expr_tokens a ++ l) (h.2 ∙ ap (λ l. token kind.Bar h.0 ∷ l) x.tokens_are)
          ∙ (sym (append_assoc (expr_tokens a) (token kind.Bar h.0 ∷ seq_tokens x.phrase) x.rest) ∙ r.tokens_are);
      behind = r.behind;
      same = r.same ∙ map-end unspanned_expr (expr_items bytes a) (seq_tree bytes x.phrase)
          (expr no_span (unspanned_kind e)) us (ap (λ k. expr no_span k) x.same);
    }

-- ---- repetitions

abbrev repeated : Operator → Kind → Kind
repeated StarOp u = node.Star' no_place no_span u
repeated PlusOp u = node.Plus' no_place no_span u
repeated OptOp u = node.Opt' no_place no_span u

repeated-same : (op : Operator) (x : Expr) (u : Kind) → unspanned_kind x.kind ≡ u
    → unspanned_kind (operator_node op x) ≡ repeated op u
repeated-same StarOp x u e = ap (node.Star' no_place no_span) e
repeated-same PlusOp x u e = ap (node.Plus' no_place no_span) e
repeated-same OptOp x u e = ap (node.Opt' no_place no_span) e

repetition : (two : Bool) (bytes : List ℕ) (ps : List Piece) (u : Kind) (op : Operator) (b : ℕ)
    → FindsPrim two bytes ps u → FindsItem two bytes (ps ++ Sign b (operator_kind op) ∷ []) (repeated op u)
repetition two bytes ps u op b f z ts h =
    let x = f (Sign b (operator_kind op) ∷ z) ts
    (subst (λ l. Stands bytes l ts) (append_assoc ps (Sign b (operator_kind op) ∷ []) z) h) in
    let e = x.behind in
    record {
      phrase = Repeated x.phrase op e.0;
      rest = e.1;
      tokens_are = x.tokens_are ∙ (ap (λ l. prim_tokens x.phrase ++ l) e.2
          ∙ sym (append_assoc (prim_tokens x.phrase) (token (operator_kind op) e.0 ∷ []) e.1));
      behind = e.3;
      same = repeated-same op (prim_tree bytes x.phrase) u x.same;
    }

pub same_bounded : (x u : Kind) (i m j n : ℕ) → x ≡ u → i ≡ m → j ≡ n
    → node.Repeat' no_place no_span x i j ≡ node.Repeat' no_place no_span u m n
same_bounded x u i m j n e f g = cc

pub same_hold : (t v : SpecTerm) (x u : Kind) → t ≡ v → x ≡ u
    → node.Hold' t no_place no_span x ≡ node.Hold' v no_place no_span u
same_hold t v x u e f = cc

pub same_scope : (x u y v z w : Kind) → x ≡ u → y ≡ v → z ≡ w
    → node.Scope' no_place no_span x no_place no_span y no_place no_span z
    ≡ node.Scope' no_place no_span u no_place no_span v no_place no_span w
same_scope x u y v z w e f g = cc

bounded : (two : Bool) (bytes : List ℕ) (ps : List Piece) (u : Kind) (m n : ℕ) → Second two
    → FindsPrim two bytes ps u → FindsItem two bytes (ps ++ bounds_pieces m n) (node.Repeat' no_place no_span u m n)
bounded two bytes ps u m n second f z ts h =
    let x = f (bounds_pieces m n ++ z) ts (subst (λ l. Stands bytes l ts) (append_assoc ps (bounds_pieces m n) z) h) in
    let o = x.behind in
    let a = o.3 in
    let c = a.4 in
    let b = c.3 in
    let e = b.4 in
    record {
      phrase = Counted second x.phrase o.0 a.2.numeral a.0 c.0 b.2.numeral b.0 e.0;
      rest = e.1;
      tokens_are = x.tokens_are ∙ (ap (λ l. prim_tokens x.phrase ++ l)
          (o.2 ∙ ap (λ l. token kind.OpenCurly o.0 ∷ l)
          (a.3 ∙ ap (λ l. token (numeral_kind a.2.numeral) a.0 ∷ l)
          (c.2 ∙ ap (λ l. token kind.Comma c.0 ∷ l) (b.3 ∙ ap (λ l. token (numeral_kind b.2.numeral) b.0 ∷ l) e.2))))
          ∙ sym (append_assoc (prim_tokens x.phrase) (token kind.OpenCurly o.0 ∷ token (numeral_kind a.2.numeral) a.0 ∷
          token kind.Comma c.0 ∷ token (numeral_kind b.2.numeral) b.0 ∷ token kind.CloseCurly e.0 ∷ []) e.1));
      behind = e.3;
      same = same_bounded _ u _ m _ n x.same a.2.value_is b.2.value_is;
    }

-- ---- holds and scopes

holding : (two : Bool) (bytes : List ℕ) (n : ℕ) (t : SpecTerm) (ps : List Piece) (u : Kind) → TermIs two n t
    → FindsGroup two bytes ps u
    → FindsPrim two bytes (hold_word ∷ Blank 32 ∷ Sign 91 kind.OpenSquare ∷ (term_pieces t
    ++ Sign 93 kind.CloseSquare ∷ Blank 32 ∷ Sign 58 kind.Colon ∷ Blank 32 ∷ ps))
    (node.Hold' (unspanned_term t) no_place no_span u)
holding two bytes n t ps u is f z ts h =
    let o = h.4 in
    let x = finds_term two bytes n t is
    (Sign 93 kind.CloseSquare ∷ Blank 32 ∷ Sign 58 kind.Colon ∷ Blank 32 ∷ (ps ++ z))
    o.1 (subst (λ l. Stands bytes l o.1)
    (append_assoc (term_pieces t) (Sign 93 kind.CloseSquare ∷ Blank 32 ∷ Sign 58 kind.Colon ∷ Blank 32 ∷ ps) z) o.3) in
    let c = x.behind in
    let colon = c.3 in
    let g = f z colon.1 colon.3 in
    record {
      phrase = Hold h.0 o.0 x.phrase c.0 colon.0 g.phrase;
      rest = g.rest;
      tokens_are = h.2 ∙ ap (λ l. token kind.HoldWord h.0 ∷ l) (o.2 ∙ ap (λ l. token kind.OpenSquare o.0 ∷ l)
          (x.tokens_are ∙ (ap (λ l. term_tokens x.phrase ++ l)
          (c.2 ∙ ap (λ l. token kind.CloseSquare c.0 ∷ l)
          (colon.2 ∙ ap (λ l. token kind.Colon colon.0 ∷ l) g.tokens_are))
          ∙ sym (append_assoc (term_tokens x.phrase)
          (token kind.CloseSquare c.0 ∷ token kind.Colon colon.0 ∷ group_tokens g.phrase) g.rest))));
      behind = g.behind;
      same = same_hold _ (unspanned_term t) _ u x.same g.same;
    }

scoping : (two : Bool) (bytes : List ℕ) (ps qs rs : List Piece) (u v w : Kind) → FindsGroup two bytes ps u
    → FindsGroup two bytes qs v → FindsGroup two bytes rs w
    → FindsPrim two bytes (try_word ∷ Blank 32 ∷ (ps ++ Blank 32 ∷ abort_word ∷ Blank 32 ∷
    (qs ++ Blank 32 ∷ then_word ∷ Blank 32 ∷ rs)))
    (node.Scope' no_place no_span u no_place no_span v no_place no_span w)
scoping two bytes ps qs rs u v w f g k z ts h =
    let x = f (Blank 32 ∷ abort_word ∷ Blank 32 ∷ ((qs ++ Blank 32 ∷ then_word ∷ Blank 32 ∷ rs) ++ z)) h.1
    (subst (λ l. Stands bytes l h.1) (append_assoc ps (Blank 32 ∷ abort_word ∷ Blank 32 ∷
    (qs ++ Blank 32 ∷ then_word ∷ Blank 32 ∷ rs)) z) h.4) in
    let a = x.behind in
    let y = g (Blank 32 ∷ then_word ∷ Blank 32 ∷ (rs ++ z)) a.1
    (subst (λ l. Stands bytes l a.1) (append_assoc qs (Blank 32 ∷ then_word ∷ Blank 32 ∷ rs) z) a.4) in
    let t = y.behind in
    let d = k z t.1 t.4 in
    record {
      phrase = Try h.0 x.phrase a.0 y.phrase t.0 d.phrase;
      rest = d.rest;
      tokens_are = h.2 ∙ ap (λ l. token kind.TryWord h.0 ∷ l) (x.tokens_are
          ∙ (ap (λ l. group_tokens x.phrase ++ l) (a.2 ∙ ap (λ l. token kind.AbortWord a.0 ∷ l) (y.tokens_are
          ∙ (ap (λ l. group_tokens y.phrase ++ l) (t.2 ∙ ap (λ l. token kind.ThenWord t.0 ∷ l) d.tokens_are)
          ∙ sym (append_assoc (group_tokens y.phrase) (token kind.ThenWord t.0 ∷ group_tokens d.phrase) d.rest))))
          ∙ sym (append_assoc (group_tokens x.phrase) (token kind.AbortWord a.0 ∷
          (group_tokens y.phrase ++ token kind.ThenWord t.0 ∷ group_tokens d.phrase)) d.rest)));
      behind = d.behind;
      same = same_scope _ u _ v _ w x.same y.same d.same;
    }

terminal : (two : Bool) (bytes : List ℕ) (n : ℕ) (t : SpecTerm) → TermIs two n t
    → FindsPrim two bytes (Sign 91 kind.OpenSquare ∷ (term_pieces t ++ Sign 93 kind.CloseSquare ∷ []))
    (node.Terminal (unspanned_term t))
terminal two bytes n t is z ts h =
    let x = finds_term two bytes n t is (Sign 93 kind.CloseSquare ∷ z) h.1
    (subst (λ l. Stands bytes l h.1) (append_assoc (term_pieces t) (Sign 93 kind.CloseSquare ∷ []) z) h.3) in
    let e = x.behind in
    record {
      phrase = Terminal h.0 x.phrase e.0;
      rest = e.1;
      tokens_are = h.2 ∙ ap (λ l. token kind.OpenSquare h.0 ∷ l)
          (x.tokens_are ∙ (ap (λ l. term_tokens x.phrase ++ l) e.2
          ∙ sym (append_assoc (term_tokens x.phrase) (token kind.CloseSquare e.0 ∷ []) e.1)));
      behind = e.3;
      same = ap node.Terminal x.same;
    }

-- ---- all expressions

mutual
  finds : (two : Bool) (bytes : List ℕ) (n : ℕ) (e : Kind) → KindIs two n e → Finds two bytes e
  finds two bytes n node.Empty is = grouped two bytes (kind_pieces node.Empty) node.Empty (empty_group two bytes)
  finds two bytes n (node.Terminal t) is = terminal two bytes n t is
  finds two bytes n (node.Action word at) is = λ z ts h.
      record {
        phrase = Action h.0 h.3.0 h.3.4.0;
        rest = h.3.4.1;
        tokens_are = h.2 ∙ ap (λ l. token kind.OpenCurly h.0 ∷ l) (h.3.2 ∙ ap (λ l. token kind.Name h.3.0 ∷ l) h.3.4.2);
        behind = h.3.4.3;
        same = ap (λ w. node.Action w no_span) h.3.3;
      }
  finds two bytes n (node.Seq' k row) is = λ z ts h.
      let r = finds_seq two bytes n row is.0 is.1 z ts h in
      record {
        phrase = r.phrase;
        rest = r.rest;
        tokens_are = r.tokens_are;
        behind = r.behind;
        same = seq-node (seq_items bytes r.phrase) (unspanned_exprs row) _ r.same is.0;
      }
  finds two bytes n (node.Choice' k row) is = λ z ts h.
      let r = finds_choice two bytes n row is.0 is.1 z ts h in
      record {
        phrase = r.phrase;
        rest = r.rest;
        tokens_are = r.tokens_are;
        behind = r.behind;
        same = choice-node (expr_items bytes r.phrase) (unspanned_exprs row) _ r.same is.0;
      }
  finds two bytes n (node.Star' p at e) is =
      repetition two bytes (wrapped (is_wide e) (kind_pieces e)) (unspanned_kind e) StarOp 42
      (prim_of two bytes e (either (is_wide e) n _ _ _ (finds two bytes n e) (finds two bytes (suc n) e) is))
  finds two bytes n (node.Plus' p at e) is =
      repetition two bytes (wrapped (is_wide e) (kind_pieces e)) (unspanned_kind e) PlusOp 43
      (prim_of two bytes e (either (is_wide e) n _ _ _ (finds two bytes n e) (finds two bytes (suc n) e) is))
  finds two bytes n (node.Opt' p at e) is =
      repetition two bytes (wrapped (is_wide e) (kind_pieces e)) (unspanned_kind e) OptOp 63
      (prim_of two bytes e (either (is_wide e) n _ _ _ (finds two bytes n e) (finds two bytes (suc n) e) is))
  finds two bytes n (node.Hold' t p at e) is =
      holding two bytes n t (wrapped (not (is_empty e)) (kind_pieces e)) (unspanned_kind e) is.0
      (group_of two bytes e (either (not (is_empty e)) n _ _ _ (finds two bytes n e) (finds two bytes (suc n) e) is.1))
  finds two bytes n (node.Scope' p at e p' at' x p'' at'' y) is =
      scoping two bytes (wrapped (not (is_empty e)) (kind_pieces e)) (wrapped (not (is_empty x)) (kind_pieces x))
      (wrapped (not (is_empty y)) (kind_pieces y)) (unspanned_kind e) (unspanned_kind x) (unspanned_kind y)
      (group_of two bytes e (either (not (is_empty e)) n _ _ _ (finds two bytes n e) (finds two bytes (suc n) e) is.0))
      (group_of two bytes x (either (not (is_empty x)) n _ _ _ (finds two bytes n x) (finds two bytes (suc n) x) is.1))
      (group_of two bytes y (either (not (is_empty y)) n _ _ _ (finds two bytes n y) (finds two bytes (suc n) y) is.2))
  finds two bytes n (node.Name word) is = λ z ts h.
      record {
        phrase = Call h.0;
        rest = h.1;
        tokens_are = h.2;
        behind = h.4;
        same = ap (λ w. node.Name w) h.3;
      }
  finds two bytes n (node.Repeat' p at e i j) is =
      bounded two bytes (wrapped (is_wide e) (kind_pieces e)) (unspanned_kind e) i j is.0
      (prim_of two bytes e (either (is_wide e) n _ _ _ (finds two bytes n e) (finds two bytes (suc n) e) is.1))

  finds_seq : (two : Bool) (bytes : List ℕ) (n : ℕ) {k : _} (row : Row_of-Expr k) → 2 ≤ length (unspanned_exprs row)
      → KindsAre two n SeqOf row → (z : List Piece) (ts : List Token) → Stands bytes (list_pieces SeqOf row ++ z) ts
      → SeqItems two bytes (unspanned_exprs row) z ts
  finds_seq two bytes n end_of-Expr some is z ts h = absurd (omega arith)
  finds_seq two bytes n (more_of-Expr at e rest) some is z ts h =
      let f = either (is_list e) n _ _ _ (finds two bytes n e) (finds two bytes (suc n) e) is.0 in
      let w : List Piece = wrapped (is_list e) (kind_pieces e) in
      let x = item_of two bytes e f (rest_pieces SeqOf rest ++ z) ts
      (subst (λ l. Stands bytes l ts) (append_assoc w (rest_pieces SeqOf rest) z) h) in
      let r = more_items two bytes n rest is.1 z (OneItem x.phrase) x.rest x.behind in
      record {
        phrase = r.phrase;
        rest = r.rest;
        tokens_are = x.tokens_are ∙ r.tokens_are;
        behind = r.behind;
        same = r.same ∙ ap (λ k. expr no_span k ∷ unspanned_exprs rest) x.same;
      }

  more_items : (two : Bool) (bytes : List ℕ) (n : ℕ) {k : _} (row : Row_of-Expr k) → KindsAre two n SeqOf row
      → (z : List Piece) (a : SeqPhrase two) (ts : List Token) → Stands bytes (rest_pieces SeqOf row ++ z) ts
      → SeqMore two bytes a (unspanned_exprs row) z ts
  more_items two bytes n end_of-Expr is z a ts h =
      record {
        phrase = a;
        rest = ts;
        tokens_are = refl;
        behind = h;
        same = sym (append-nil (map unspanned_expr (seq_items bytes a)));
      }
  more_items two bytes n (more_of-Expr at e rest) is z a ts h =
      let f = either (is_list e) n _ _ _ (finds two bytes n e) (finds two bytes (suc n) e) is.0 in
      next_item two bytes e (unspanned_exprs rest) (rest_pieces SeqOf rest) z a ts (item_of two bytes e f)
      (more_items two bytes n rest is.1 z) h

  finds_choice : (two : Bool) (bytes : List ℕ) (n : ℕ) {k : _} (row : Row_of-Expr k)
      → 2 ≤ length (unspanned_exprs row)
      → KindsAre two n ChoiceOf row → (z : List Piece) (ts : List Token)
      → Stands bytes (list_pieces ChoiceOf row ++ z) ts
      → ChoiceItems two bytes (unspanned_exprs row) z ts
  finds_choice two bytes n end_of-Expr some is z ts h = absurd (omega arith)
  finds_choice two bytes n (more_of-Expr at e rest) some is z ts h =
      let f = either (is_choice e) n _ _ _ (finds two bytes n e) (finds two bytes (suc n) e) is.0 in
      let w : List Piece = wrapped (is_choice e) (kind_pieces e) in
      let x = seq_of two bytes e f (rest_pieces ChoiceOf rest ++ z) ts
      (subst (λ l. Stands bytes l ts) (append_assoc w (rest_pieces ChoiceOf rest) z) h) in
      let r = more_seqs two bytes n rest is.1 z (OneSeq x.phrase) x.rest x.behind in
      record {
        phrase = r.phrase;
        rest = r.rest;
        tokens_are = x.tokens_are ∙ r.tokens_are;
        behind = r.behind;
        same = r.same ∙ ap (λ k. expr no_span k ∷ unspanned_exprs rest) x.same;
      }

  more_seqs : (two : Bool) (bytes : List ℕ) (n : ℕ) {k : _} (row : Row_of-Expr k) → KindsAre two n ChoiceOf row
      → (z : List Piece) (a : ExprPhrase two) (ts : List Token) → Stands bytes (rest_pieces ChoiceOf row ++ z) ts
      → ChoiceMore two bytes a (unspanned_exprs row) z ts
  more_seqs two bytes n end_of-Expr is z a ts h =
      record {
        phrase = a;
        rest = ts;
        tokens_are = refl;
        behind = h;
        same = sym (append-nil (map unspanned_expr (expr_items bytes a)));
      }
  more_seqs two bytes n (more_of-Expr at e rest) is z a ts h =
      let f = either (is_choice e) n _ _ _ (finds two bytes n e) (finds two bytes (suc n) e) is.0 in
      next_seq two bytes e (unspanned_exprs rest) (rest_pieces ChoiceOf rest) z a ts (seq_of two bytes e f)
      (more_seqs two bytes n rest is.1 z) h

-- the canonical text of an expression is a phrase of it
pub finds_expr : (two : Bool) (bytes : List ℕ) (n : ℕ) (e : Kind) → KindIs two n e
    → FindsExpr two bytes (kind_pieces e) (unspanned_kind e)
finds_expr two bytes n e is = expr_of two bytes e (finds two bytes n e is)
