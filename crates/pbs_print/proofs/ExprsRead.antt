-- An expression that is read can be written: its canonical brackets are no deeper than those of its text.
use Rattle.std.proofs.Common.{◌≡◌, ℕ, suc, ◌<◌, ◌≤◌, List, [], ◌∷◌, ◌++◌, length, Bool, refl, sym, ap, subst, ◌∙◌}
use Rattle.std.proofs.Common.{append_assoc, arith}
use Rattle.std.specs.Prelude.{not}
use Rattle.std.proofs.lemmas.List.{length-map}
use Rattle.pbs_base.specs.declared.refusal.Span.{Span}
use Rattle.pbs_ast.specs.declared.syntax.Expr.{Expr}
use Rattle.pbs_ast.specs.declared.syntax.Kind as node
use Rattle.pbs_ast.specs.declared.syntax.Kind.{Kind, Row_of-Expr, end_of-Expr, more_of-Expr, items-the_row-Expr}
use Rattle.pbs_ast.specs.declared.syntax.Kind.{items_hidden-the_row-Expr-0}
use Rattle.pbs_ast.specs.declared.syntax.Kind.TheBlock.{hidden-the_row-Expr-0}
use Rattle.pbs_text.specs.declared.token.Token.{Token}
use Rattle.pbs_text.specs.declared.token.Operator.TheVariants.{StarOp, PlusOp, OptOp}
use Rattle.pbs_text.specs.declared.token.TokenKind.TheVariants as kind
use Rattle.pbs_text.specs.Grammar.{token, numeral_kind, ExprPhrase, OneSeq, MoreSeqs, SeqPhrase, OneItem, MoreItems}
use Rattle.pbs_text.specs.Grammar.{ItemPhrase, Plain, Repeated, Counted, PrimPhrase, Terminal, Action, Call, Grouped}
use Rattle.pbs_text.specs.Grammar.{Hold, Try, GroupPhrase, EmptyGroup, FullGroup, term_tokens, expr_tokens, seq_tokens}
use Rattle.pbs_text.specs.Grammar.{item_tokens, prim_tokens, group_tokens}
use Rattle.pbs_text.specs.Trees.{seq_node, choice_node, expr_items, seq_items, item_tree, prim_tree, group_tree}
use Rattle.pbs_text.specs.Trees.{seq_tree, expr_tree, seq_extent, expr_extent}
use Rattle.pbs_print.specs.Canonical.{is_empty, is_choice, is_list, is_wide}
use Rattle.pbs_print.specs.Unspanned.{unspanned_exprs, unspanned_expr}
use Rattle.pbs_text.specs.Nesting.{Opened, Round, closed}
use Rattle.pbs_print.proofs.TextPieces.{InBrackets}
use Rattle.pbs_print.proofs.Proper.{Proper, proper-number}
use Rattle.pbs_ast.proofs.Items.{Each, each-end}
use Rattle.pbs_print.proofs.TermsRead.{lower-brackets, lower, low, some_more, ItemsRead, term_is_read}
use Rattle.pbs_print.proofs.ExprPieces.{ExprList, SeqOf, ChoiceOf, wraps, KindIs, KindsAre}
use Rattle.pbs_print.proofs.ExprPhrases.{unspanned-row}

-- ---- less nesting is no harder

mutual
  lower_kind : (two : Bool) (n : ℕ) (e : Kind) → KindIs two (suc n) e → KindIs two n e
  lower_kind two n node.Empty h = omega arith
  lower_kind two n (node.Terminal t) h = lower two n t h
  lower_kind two n (node.Action word at) h = h
  lower_kind two n (node.Seq' k row) h = (h.0, lower_list two n SeqOf row h.1)
  lower_kind two n (node.Choice' k row) h = (h.0, lower_list two n ChoiceOf row h.1)
  lower_kind two n (node.Star' _ at e) h =
      lower-brackets (is_wide e) n _ _ _ _ (lower_kind two n e) (lower_kind two (suc n) e) h
  lower_kind two n (node.Plus' _ at e) h =
      lower-brackets (is_wide e) n _ _ _ _ (lower_kind two n e) (lower_kind two (suc n) e) h
  lower_kind two n (node.Opt' _ at e) h =
      lower-brackets (is_wide e) n _ _ _ _ (lower_kind two n e) (lower_kind two (suc n) e) h
  lower_kind two n (node.Hold' t _ at e) h = (
    lower two n t h.0,
    lower-brackets (not (is_empty e)) n _ _ _ _ (lower_kind two n e) (lower_kind two (suc n) e) h.1,
  )
  lower_kind two n (node.Scope' _ at e _ at' x _ at'' y) h = (
    lower-brackets (not (is_empty e)) n _ _ _ _ (lower_kind two n e) (lower_kind two (suc n) e) h.0,
    lower-brackets (not (is_empty x)) n _ _ _ _ (lower_kind two n x) (lower_kind two (suc n) x) h.1,
    lower-brackets (not (is_empty y)) n _ _ _ _ (lower_kind two n y) (lower_kind two (suc n) y) h.2,
  )
  lower_kind two n (node.Name word) h = h
  lower_kind two n (node.Repeat' _ at e i j) h =
      (h.0, lower-brackets (is_wide e) n _ _ _ _ (lower_kind two n e) (lower_kind two (suc n) e) h.1, h.2, h.3)

  lower_list : (two : Bool) (n : ℕ) (l : ExprList) {k : _} (row : Row_of-Expr k) → KindsAre two (suc n) l row
      → KindsAre two n l row
  lower_list two n l end_of-Expr h = tt
  lower_list two n l (more_of-Expr at e rest) h = (
    lower-brackets (wraps l e) n _ _ _ _ (lower_kind two n e) (lower_kind two (suc n) e) h.0,
    lower_list two n l rest h.1,
  )

-- ---- with brackets where they are needed

abbrev Within : Bool → Bool → ℕ → Kind → Type 0
Within two b n e = InBrackets b n (KindIs two n e) (KindIs two (suc n) e)

-- an operand, an item, and the inside of a group
abbrev PrimIs : Bool → ℕ → Kind → Type 0
PrimIs two n e = Within two (is_wide e) n e

abbrev ItemIs : Bool → ℕ → Expr → Type 0
ItemIs two n x = Within two (is_list x.kind) n x.kind

abbrev GroupIs : Bool → ℕ → Kind → Type 0
GroupIs two n e = Within two (not (is_empty e)) n e

prim_item : (two : Bool) (n : ℕ) (e : Kind) → PrimIs two n e → Within two (is_list e) n e
prim_item two n (node.Star' p at e) h = lower_kind two n (node.Star' p at e) h.1
prim_item two n (node.Plus' p at e) h = lower_kind two n (node.Plus' p at e) h.1
prim_item two n (node.Opt' p at e) h = lower_kind two n (node.Opt' p at e) h.1
prim_item two n (node.Repeat' p at e i j) h = lower_kind two n (node.Repeat' p at e i j) h.1
prim_item two n (node.Seq' k row) h = h
prim_item two n (node.Choice' k row) h = h
prim_item two n node.Empty h = h
prim_item two n (node.Terminal t) h = h
prim_item two n (node.Action word at) h = h
prim_item two n (node.Hold' t p at e) h = h
prim_item two n (node.Scope' p at e p' at' x p'' at'' y) h = h
prim_item two n (node.Name word) h = h

item_seq : (two : Bool) (n : ℕ) (e : Kind) → Within two (is_list e) n e → Within two (is_choice e) n e
item_seq two n (node.Seq' k row) h = lower_kind two n (node.Seq' k row) h.1
item_seq two n (node.Choice' k row) h = h
item_seq two n (node.Star' p at e) h = h
item_seq two n (node.Plus' p at e) h = h
item_seq two n (node.Opt' p at e) h = h
item_seq two n (node.Repeat' p at e i j) h = h
item_seq two n node.Empty h = h
item_seq two n (node.Terminal t) h = h
item_seq two n (node.Action word at) h = h
item_seq two n (node.Hold' t p at e) h = h
item_seq two n (node.Scope' p at e p' at' x p'' at'' y) h = h
item_seq two n (node.Name word) h = h

seq_bare : (two : Bool) (n : ℕ) (e : Kind) → Within two (is_choice e) n e → KindIs two n e
seq_bare two n (node.Choice' k row) h = lower_kind two n (node.Choice' k row) h.1
seq_bare two n (node.Seq' k row) h = h
seq_bare two n (node.Star' p at e) h = h
seq_bare two n (node.Plus' p at e) h = h
seq_bare two n (node.Opt' p at e) h = h
seq_bare two n (node.Repeat' p at e i j) h = h
seq_bare two n node.Empty h = h
seq_bare two n (node.Terminal t) h = h
seq_bare two n (node.Action word at) h = h
seq_bare two n (node.Hold' t p at e) h = h
seq_bare two n (node.Scope' p at e p' at' x p'' at'' y) h = h
seq_bare two n (node.Name word) h = h

-- what stands in brackets one deeper, as a group and as an operand
full_is : (two : Bool) (n : ℕ) (e : Kind) → n < 64 → KindIs two (suc n) e → GroupIs two n e
full_is two n node.Empty few h = few
full_is two n (node.Seq' k row) few h = (few, h)
full_is two n (node.Choice' k row) few h = (few, h)
full_is two n (node.Star' p at e) few h = (few, h)
full_is two n (node.Plus' p at e) few h = (few, h)
full_is two n (node.Opt' p at e) few h = (few, h)
full_is two n (node.Repeat' p at e i j) few h = (few, h)
full_is two n (node.Terminal t) few h = (few, h)
full_is two n (node.Action word at) few h = (few, h)
full_is two n (node.Hold' t p at e) few h = (few, h)
full_is two n (node.Scope' p at e p' at' x p'' at'' y) few h = (few, h)
full_is two n (node.Name word) few h = (few, h)

group_prim : (two : Bool) (n : ℕ) (e : Kind) → GroupIs two n e → PrimIs two n e
group_prim two n (node.Seq' k row) h = h
group_prim two n (node.Choice' k row) h = h
group_prim two n (node.Star' p at e) h = h
group_prim two n (node.Plus' p at e) h = h
group_prim two n (node.Opt' p at e) h = h
group_prim two n (node.Repeat' p at e i j) h = h
group_prim two n node.Empty h = h
group_prim two n (node.Terminal t) h = lower_kind two n (node.Terminal t) h.1
group_prim two n (node.Action word at) h = h.1
group_prim two n (node.Hold' t p at e) h = lower_kind two n (node.Hold' t p at e) h.1
group_prim two n (node.Scope' p at e p' at' x p'' at'' y) h =
    lower_kind two n (node.Scope' p at e p' at' x p'' at'' y) h.1
group_prim two n (node.Name word) h = h.1

-- ---- lists

abbrev MemberIs : Bool → ℕ → ExprList → Expr → Type 0
MemberIs two n l x = Within two (wraps l x.kind) n x.kind

row-is : (two : Bool) (n : ℕ) (l : ExprList) (k : _) (row : Row_of-Expr k)
    → Each (MemberIs two n l) (items-the_row-Expr k row) → KindsAre two n l row
row-is two n l k end_of-Expr h = tt
row-is two n l k (more_of-Expr at e rest) h = (h.0, row-is two n l _ rest h.1)

list-is : (two : Bool) (n : ℕ) (l : ExprList) (items : List Expr) → 2 ≤ length items → Each (MemberIs two n l) items
    → (2 ≤ length (unspanned_exprs (hidden-the_row-Expr-0 items))) × KindsAre two n l (hidden-the_row-Expr-0 items)
list-is two n l items many h =
    let e : length (unspanned_exprs (hidden-the_row-Expr-0 items)) ≡ length items =
    ap length (unspanned-row items) ∙ length-map items unspanned_expr in (
      omega arith,
      row-is two n l _ (hidden-the_row-Expr-0 items)
          (subst (Each (MemberIs two n l)) (sym (items_hidden-the_row-Expr-0 items)) h),
    )

seq-is : (two : Bool) (n : ℕ) (items : List Expr) (at : Span) → 0 < length items → Each (MemberIs two n SeqOf) items
    → MemberIs two n ChoiceOf (seq_node items at)
seq-is two n [] at some h = absurd (omega arith)
seq-is two n (x ∷ []) at some h = item_seq two n x.kind h.0
seq-is two n (x ∷ y ∷ items) at some h = list-is two n SeqOf (x ∷ y ∷ items) (omega arith) h

choice-is : (two : Bool) (n : ℕ) (items : List Expr) (at : Span) → 0 < length items
    → Each (MemberIs two n ChoiceOf) items → KindIs two n (choice_node items at).kind
choice-is two n [] at some h = absurd (omega arith)
choice-is two n (x ∷ []) at some h = seq_bare two n x.kind h.0
choice-is two n (x ∷ y ∷ items) at some h = list-is two n ChoiceOf (x ∷ y ∷ items) (omega arith) h

-- ---- phrases

mutual
  group_read : (two : Bool) (bytes : List ℕ) (g : GroupPhrase two) (s : List Opened) (z : List Token) → closed s ≡ s
      → Proper bytes s (group_tokens g ++ z)
      → GroupIs two (length s) (group_tree bytes g).kind × Proper bytes s z
  group_read two bytes (EmptyGroup o c) s z e h = (low (length s) h.0, subst (λ x. Proper bytes x z) e h.2.2)
  group_read two bytes (FullGroup o x c) s z e h =
      let r = expr_read two bytes x (Round ∷ s) (token kind.CloseRound c ∷ z) refl
      (subst (Proper bytes (Round ∷ s)) (append_assoc (expr_tokens x) (token kind.CloseRound c ∷ []) z) h.2) in (
        full_is two (length s) (choice_node (expr_items bytes x) (expr_extent x)).kind (low (length s) h.0)
            (choice-is two (suc (length s)) (expr_items bytes x) (expr_extent x) r.some r.each),
        subst (λ x. Proper bytes x z) e r.behind.2,
      )

  prim_read : (two : Bool) (bytes : List ℕ) (p : PrimPhrase two) (s : List Opened) (z : List Token) → closed s ≡ s
      → Proper bytes s (prim_tokens p ++ z)
      → PrimIs two (length s) (prim_tree bytes p).kind × Proper bytes s z
  prim_read two bytes (Terminal o t c) s z e h =
      let r = term_is_read two bytes t s (token kind.CloseSquare c ∷ z) e
      (subst (Proper bytes s) (append_assoc (term_tokens t) (token kind.CloseSquare c ∷ []) z) h.2) in
      (r.0, r.1.2)
  prim_read two bytes (Action o n c) s z e h = (h.2.1, subst (λ x. Proper bytes x z) e h.2.2.2)
  prim_read two bytes (Call at) s z e h = (h.1, subst (λ x. Proper bytes x z) e h.2)
  prim_read two bytes (Grouped g) s z e h =
      let r = group_read two bytes g s z e h in
      (group_prim two (length s) (group_tree bytes g).kind r.0, r.1)
  prim_read two bytes (Hold at o t c colon g) s z e h =
      let r = term_is_read two bytes t s (token kind.CloseSquare c ∷ token kind.Colon colon ∷ (group_tokens g ++ z)) e
      (subst (Proper bytes s) (append_assoc (term_tokens t)
      (token kind.CloseSquare c ∷ token kind.Colon colon ∷ group_tokens g) z) h.2.2) in
      let x = group_read two bytes g s z e r.1.2.2 in
      ((r.0, x.0), x.1)
  prim_read two bytes (Try at body a trap th after) s z e h =
      let b = group_read two bytes body s (token kind.AbortWord a ∷
      ((group_tokens trap ++ token kind.ThenWord th ∷ group_tokens after) ++ z)) e
      (subst (Proper bytes s) (append_assoc (group_tokens body)
      (token kind.AbortWord a ∷ (group_tokens trap ++ token kind.ThenWord th ∷ group_tokens after)) z) h.2) in
      let t = group_read two bytes trap s (token kind.ThenWord th ∷ (group_tokens after ++ z)) e
      (subst (Proper bytes s) (append_assoc (group_tokens trap) (token kind.ThenWord th ∷ group_tokens after) z)
      b.1.2) in
      let x = group_read two bytes after s z e t.1.2 in
      ((b.0, t.0, x.0), x.1)

  item_read : (two : Bool) (bytes : List ℕ) (i : ItemPhrase two) (s : List Opened) (z : List Token) → closed s ≡ s
      → Proper bytes s (item_tokens i ++ z) → ItemIs two (length s) (item_tree bytes i) × Proper bytes s z
  item_read two bytes (Plain p) s z e h =
      let r = prim_read two bytes p s z e h in
      (prim_item two (length s) (prim_tree bytes p).kind r.0, r.1)
  item_read two bytes (Repeated p StarOp at) s z e h =
      let r = prim_read two bytes p s (token kind.Star at ∷ z) e
      (subst (Proper bytes s) (append_assoc (prim_tokens p) (token kind.Star at ∷ []) z) h) in
      (r.0, r.1.2)
  item_read two bytes (Repeated p PlusOp at) s z e h =
      let r = prim_read two bytes p s (token kind.Plus at ∷ z) e
      (subst (Proper bytes s) (append_assoc (prim_tokens p) (token kind.Plus at ∷ []) z) h) in
      (r.0, r.1.2)
  item_read two bytes (Repeated p OptOp at) s z e h =
      let r = prim_read two bytes p s (token kind.Question at ∷ z) e
      (subst (Proper bytes s) (append_assoc (prim_tokens p) (token kind.Question at ∷ []) z) h) in
      (r.0, r.1.2)
  item_read two bytes (Counted second p o m a c n b close) s z e h =
      let end : List Token = token kind.CloseCurly close ∷ z in
      let tail : List Token = token kind.Comma c ∷ token (numeral_kind n) b ∷ end in
      let r = prim_read two bytes p s (token kind.OpenCurly o ∷ token (numeral_kind m) a ∷ tail) e
      (subst (Proper bytes s) (append_assoc (prim_tokens p) (token kind.OpenCurly o ∷ token (numeral_kind m) a ∷
      token kind.Comma c ∷ token (numeral_kind n) b ∷ token kind.CloseCurly close ∷ []) z) h) in
      let least = proper-number bytes m a tail s r.1.2 in
      let most = proper-number bytes n b end (closed s) least.1.2 in
      ((second, r.0, least.0, most.0), subst (λ x. Proper bytes x z) (ap closed e ∙ e) most.1.2)

  seq_read : (two : Bool) (bytes : List ℕ) (x : SeqPhrase two) (s : List Opened) (z : List Token) → closed s ≡ s
      → Proper bytes s (seq_tokens x ++ z) → ItemsRead bytes (MemberIs two (length s) SeqOf) (seq_items bytes x) s z
  seq_read two bytes (OneItem i) s z e h =
      let r = item_read two bytes i s z e h in
      record { some = omega arith; each = (r.0, tt); behind = r.1 }
  seq_read two bytes (MoreItems x at i) s z e h =
      let r = seq_read two bytes x s (token kind.Comma at ∷ (item_tokens i ++ z)) e
      (subst (Proper bytes s) (append_assoc (seq_tokens x) (token kind.Comma at ∷ item_tokens i) z) h) in
      let y = item_read two bytes i s z e r.behind.2 in
      record {
        some = some_more (seq_items bytes x) (item_tree bytes i);
        each = each-end (MemberIs two (length s) SeqOf) (seq_items bytes x) (item_tree bytes i) r.each y.0;
        behind = y.1;
      }

  expr_read : (two : Bool) (bytes : List ℕ) (x : ExprPhrase two) (s : List Opened) (z : List Token) → closed s ≡ s
      → Proper bytes s (expr_tokens x ++ z)
      → ItemsRead bytes (MemberIs two (length s) ChoiceOf) (expr_items bytes x) s z
  expr_read two bytes (OneSeq x) s z e h =
      let r = seq_read two bytes x s z e h in
      record {
        some = omega arith;
        each = (seq-is two (length s) (seq_items bytes x) (seq_extent x) r.some r.each, tt);
        behind = r.behind;
      }
  expr_read two bytes (MoreSeqs x at y) s z e h =
      let r = expr_read two bytes x s (token kind.Bar at ∷ (seq_tokens y ++ z)) e
      (subst (Proper bytes s) (append_assoc (expr_tokens x) (token kind.Bar at ∷ seq_tokens y) z) h) in
      let q = seq_read two bytes y s z e r.behind.2 in
      record {
        some = some_more (expr_items bytes x) (seq_tree bytes y);
        each = each-end (MemberIs two (length s) ChoiceOf) (expr_items bytes x) (seq_tree bytes y) r.each
            (seq-is two (length s) (seq_items bytes y) (seq_extent y) q.some q.each);
        behind = q.behind;
      }

-- an expression can be written at the nesting at which it is read
pub expr_is_read : (two : Bool) (bytes : List ℕ) (x : ExprPhrase two) (s : List Opened) (z : List Token) → closed s ≡ s
    → Proper bytes s (expr_tokens x ++ z) → KindIs two (length s) (expr_tree bytes x).kind × Proper bytes s z
expr_is_read two bytes x s z e h =
    let r = expr_read two bytes x s z e h in
    (choice-is two (length s) (expr_items bytes x) (expr_extent x) r.some r.each, r.behind)
