-- A phrase is walked over, and so are the tokens before a hole.
use Rattle.std.proofs.Common.{◌≡◌, List, [], ◌∷◌, ◌++◌, Bool, Option, Some, refl, sym, ap, ◌∙◌, append_assoc, false}
use Rattle.std.proofs.Common.{true}
use Rattle.std.specs.Prelude.{option_map, option_and_then}
use Rattle.pbs_base.specs.declared.refusal.Span.{Span}
use Rattle.pbs_text.specs.declared.token.Token.{Token}
use Rattle.pbs_text.specs.declared.token.Operator.{Operator}
use Rattle.pbs_text.specs.declared.token.Operator.TheVariants.{StarOp, PlusOp, OptOp}
use Rattle.pbs_text.specs.declared.token.TokenKind.{TokenKind}
use Rattle.pbs_text.specs.declared.token.TokenKind.TheVariants.{Name, HoldWord, TryWord, AbortWord}
use Rattle.pbs_text.specs.declared.token.TokenKind.TheVariants.{ThenWord, Semicolon, Comma, Equals, OpenCurly}
use Rattle.pbs_text.specs.declared.token.TokenKind.TheVariants.{CloseCurly, OpenRound, CloseRound, OpenSquare}
use Rattle.pbs_text.specs.declared.token.TokenKind.TheVariants.{CloseSquare, Bar, Ampersand, Colon}
use Rattle.pbs_text.specs.Grammar.{token, Second, bit_kind, Numeral, ZeroNumeral, OneNumeral, TwoNumeral, DigitNumeral}
use Rattle.pbs_text.specs.Grammar.{LongNumeral, numeral_kind, Width, OneBit, TwoBits, MoreBits, width_kind}
use Rattle.pbs_text.specs.Grammar.{operator_kind, UnitPhrase, Negated, Bracketed, Named, Bit, Compared, AllPhrase}
use Rattle.pbs_text.specs.Grammar.{OneUnit, MoreUnits, TermPhrase, OneAll, MoreAlls, ExprPhrase, OneSeq, MoreSeqs}
use Rattle.pbs_text.specs.Grammar.{SeqPhrase, OneItem, MoreItems, ItemPhrase, Plain, Repeated, Counted, PrimPhrase}
use Rattle.pbs_text.specs.Grammar.{Terminal, Action, Call, Grouped, Hold, Try, GroupPhrase, EmptyGroup, FullGroup}
use Rattle.pbs_text.specs.Grammar.{InputPhrase, OneWire, Bus, InputsPhrase, OneInput, MoreInputs, NamesPhrase, OneName}
use Rattle.pbs_text.specs.Grammar.{MoreNames, SetsPhrase, NoSets, MoreSets, DeclPhrase, InputDecl, ActionDecl}
use Rattle.pbs_text.specs.Grammar.{LevelDecl, ProdDecl, DeclsPhrase, NoDecls, MoreDecls, TextPhrase, OfVersion}
use Rattle.pbs_text.specs.Grammar.{unit_tokens, all_tokens, term_tokens, expr_tokens, seq_tokens, item_tokens}
use Rattle.pbs_text.specs.Grammar.{prim_tokens, group_tokens, input_tokens, inputs_tokens, names_tokens, sets_tokens}
use Rattle.pbs_text.specs.Grammar.{decl_tokens, decls_tokens, head_tokens, text_tokens, Begins}
use Rattle.pbs_text.specs.places.Holes.{Front, ExprHole, OfGroup, OfProd, OfMain, SeqHole, FirstSeq, NextSeq, ItemHole}
use Rattle.pbs_text.specs.places.Holes.{FirstItem, NextItem, GroupHole, AsPrim, OfHold, OfBody, OfTrap, OfAfter}
use Rattle.pbs_text.specs.places.Holes.{TermHole, OfTerminal, OfGuard, InRound, AllHole, FirstAll, NextAll, UnitHole}
use Rattle.pbs_text.specs.places.Holes.{UnderNot, FirstUnit, NextUnit}
use Rattle.pbs_text.specs.places.Places.{InputHole, FirstInput, NextInput, FirstName, LevelFront, Place, Start, InDecls}
use Rattle.pbs_text.specs.places.Places.{WantsInput, AfterInputName, WantsWidth, AfterInput, WantsName, AfterName}
use Rattle.pbs_text.specs.places.Places.{AfterLevelEquals, AfterLevelBit, InLevel, AfterSetColon, AfterSetBit}
use Rattle.pbs_text.specs.places.Places.{WantsItem, WantsGroup, InGroup, AfterPrim, WantsLeast, AfterLeast, WantsMost}
use Rattle.pbs_text.specs.places.Places.{AfterMost, AfterItem, WantsUnit, AfterUnitName, WantsNumber, Whole}
use Rattle.pbs_text.specs.places.Steps.{second, bit_of, numeral_of, width_of, with_next, unit_hole, unit_all, with_unit}
use Rattle.pbs_text.specs.places.Steps.{with_group, with_item, seq_hole, with_seq, expr_hole, close_round, close_square}
use Rattle.pbs_text.specs.places.Steps.{close_group, close_expr, end_unit, start_item, end_item, end_input, first_front}
use Rattle.pbs_text.specs.places.Steps.{level_front, step, walk}
use Rattle.pbs_grammar.proofs.Walks.{walk-before, walk-append}
use Rattle.pbs_grammar.proofs.Finishes.{finish}

-- ---- what a kind of token stands for

second_is : (two : Bool) (s : Second two) → second two ≡ Some s
second_is true s = refl
second_is false s = absurd s

numeral_is : (n : Numeral) → numeral_of (numeral_kind n) ≡ Some n
numeral_is ZeroNumeral = refl
numeral_is OneNumeral = refl
numeral_is TwoNumeral = refl
numeral_is (DigitNumeral n) = refl
numeral_is (LongNumeral n) = refl

width_is : (w : Width) → width_of (width_kind w) ≡ Some w
width_is OneBit = refl
width_is TwoBits = refl
width_is (MoreBits n) = refl

bit_is : (b : Bool) → bit_of (bit_kind b) ≡ Some b
bit_is false = refl
bit_is true = refl

-- one step of a walk
walk-step : (p q : Place) (k : TokenKind) (at : Span) (z : List Token) → step p k at ≡ Some q
    → walk p (token k at ∷ z) ≡ walk q z
walk-step p q k at z e = ap (option_and_then (λ r. walk r z)) e

-- a step over a token of a kind that stands for something
walk-kind : {A : Type 0} (p : Place) (f : A → Place) (o : Option A) (x : A) (k : TokenKind) (at : Span) (z : List Token)
    → step p k at ≡ option_map f o → o ≡ Some x
    → walk p (token k at ∷ z) ≡ walk (f x) z
walk-kind p f o x k at z e is = walk-step p (f x) k at z (e ∙ ap (option_map f) is)

-- ---- terms

abbrev behind_unit : {two : Bool} → UnitPhrase two → UnitHole two → Place
behind_unit (Negated at u) h = behind_unit u (UnderNot at h)
behind_unit (Named at) h = AfterUnitName at h
behind_unit u h = with_unit h u

abbrev behind_all : {two : Bool} → AllPhrase two → AllHole two → Place
behind_all (OneUnit u) h = behind_unit u (FirstUnit h)
behind_all (MoreUnits a at u) h = behind_unit u (NextUnit a at h)

abbrev behind_term : {two : Bool} → TermPhrase two → TermHole two → Place
behind_term (OneAll a) h = behind_all a (FirstAll h)
behind_term (MoreAlls t at a) h = behind_all a (NextAll t at h)

-- a place where a unit has ended
record UnitEnds {two : Bool} (p : Place) (a : AllPhrase two) (h : AllHole two) : Type 0 where
  ampersand : (at : Span) → step p Ampersand at ≡ end_unit a h Ampersand at
  bar : (at : Span) → step p Bar at ≡ end_unit a h Bar at
  round : (at : Span) → step p CloseRound at ≡ end_unit a h CloseRound at
  square : (at : Span) → step p CloseSquare at ≡ end_unit a h CloseSquare at

ends-unit : {two : Bool} (u : UnitPhrase two) (h : UnitHole two)
    → UnitEnds (behind_unit u h) (unit_all h u) (unit_hole h)
ends-unit (Negated at u) h = ends-unit u (UnderNot at h)
ends-unit (Bracketed o t c) h = record {
  ampersand = λ at. refl;
  bar = λ at. refl;
  round = λ at. refl;
  square = λ at. refl;
}
ends-unit (Named n) h = record { ampersand = λ at. refl; bar = λ at. refl; round = λ at. refl; square = λ at. refl }
ends-unit (Bit b n) h = record { ampersand = λ at. refl; bar = λ at. refl; round = λ at. refl; square = λ at. refl }
ends-unit (Compared s n e m to) h = record {
  ampersand = λ at. refl;
  bar = λ at. refl;
  round = λ at. refl;
  square = λ at. refl;
}

ends-all : {two : Bool} (a : AllPhrase two) (h : AllHole two) → UnitEnds (behind_all a h) a h
ends-all (OneUnit u) h = ends-unit u (FirstUnit h)
ends-all (MoreUnits a at u) h = ends-unit u (NextUnit a at h)

after_term-bar : {two : Bool} (t : TermPhrase two) (h : TermHole two) (at : Span)
    → step (behind_term t h) Bar at ≡ Some (WantsUnit (FirstUnit (NextAll t at h)))
after_term-bar (OneAll a) h at = (ends-all a (FirstAll h)).bar at
after_term-bar (MoreAlls t b a) h at = (ends-all a (NextAll t b h)).bar at

after_term-round : {two : Bool} (t : TermPhrase two) (h : TermHole two) (at : Span)
    → step (behind_term t h) CloseRound at ≡ close_round h t at
after_term-round (OneAll a) h at = (ends-all a (FirstAll h)).round at
after_term-round (MoreAlls t b a) h at = (ends-all a (NextAll t b h)).round at

after_term-square : {two : Bool} (t : TermPhrase two) (h : TermHole two) (at : Span)
    → step (behind_term t h) CloseSquare at ≡ close_square h t at
after_term-square (OneAll a) h at = (ends-all a (FirstAll h)).square at
after_term-square (MoreAlls t b a) h at = (ends-all a (NextAll t b h)).square at

walk-compared : {two : Bool} (s : Second two) (n e : Span) (m : Numeral) (to : Span) (h : UnitHole two) (z : List Token)
    → walk (AfterUnitName n h) (token Equals e ∷ token (numeral_kind m) to ∷ z) ≡ walk
    (with_unit h (Compared s n e m to)) z
walk-compared {two} s n e m to h z =
    walk-kind (AfterUnitName n h) (λ x. WantsNumber x n e h) (second two) s Equals e
    (token (numeral_kind m) to ∷ z) refl (second_is two s)
    ∙ walk-kind (WantsNumber s n e h) (λ x. with_unit h (Compared s n e x to)) (numeral_of (numeral_kind m)) m
    (numeral_kind m) to z refl (numeral_is m)

mutual
  walk-unit : {two : Bool} (u : UnitPhrase two) (h : UnitHole two) (z : List Token)
      → walk (WantsUnit h) (unit_tokens u ++ z) ≡ walk (behind_unit u h) z
  walk-unit (Negated at u) h z = walk-unit u (UnderNot at h) z
  walk-unit (Bracketed o t c) h z =
      rw (append_assoc (term_tokens t) (token CloseRound c ∷ []) z)
      (walk-term t (InRound o h) (token CloseRound c ∷ z) ∙ walk-step (behind_term t (InRound o h))
      (with_unit h (Bracketed o t c)) CloseRound c z (after_term-round t (InRound o h) c))
  walk-unit (Named at) h z = refl
  walk-unit (Bit false at) h z = refl
  walk-unit (Bit true at) h z = refl
  walk-unit (Compared s n e m to) h z = walk-compared s n e m to h z

  walk-all : {two : Bool} (a : AllPhrase two) (h : AllHole two) (z : List Token)
      → walk (WantsUnit (FirstUnit h)) (all_tokens a ++ z) ≡ walk (behind_all a h) z
  walk-all (OneUnit u) h z = walk-unit u (FirstUnit h) z
  walk-all (MoreUnits a at u) h z =
      rw (append_assoc (all_tokens a) (token Ampersand at ∷ unit_tokens u) z)
      (walk-all a h (token Ampersand at ∷ (unit_tokens u ++ z))
      ∙ (walk-step _ _ Ampersand at (unit_tokens u ++ z) ((ends-all a h).ampersand at)
      ∙ walk-unit u (NextUnit a at h) z))

  walk-term : {two : Bool} (t : TermPhrase two) (h : TermHole two) (z : List Token)
      → walk (WantsUnit (FirstUnit (FirstAll h))) (term_tokens t ++ z) ≡ walk (behind_term t h) z
  walk-term (OneAll a) h z = walk-all a (FirstAll h) z
  walk-term (MoreAlls t at a) h z =
      rw (append_assoc (term_tokens t) (token Bar at ∷ all_tokens a) z)
      (walk-term t h (token Bar at ∷ (all_tokens a ++ z))
      ∙ (walk-step (behind_term t h) _ Bar at (all_tokens a ++ z) (after_term-bar t h at)
      ∙ walk-all a (NextAll t at h) z))

-- a term and its square bracket
walk-square : {two : Bool} (t : TermPhrase two) (h : TermHole two) (c : Span) (q : Place) (z : List Token)
    → close_square h t c ≡ Some q
    → walk (WantsUnit (FirstUnit (FirstAll h))) (term_tokens t ++ token CloseSquare c ∷ z) ≡ walk q z
walk-square t h c q z e = walk-term t h (token CloseSquare c ∷ z)
    ∙ walk-step (behind_term t h) q CloseSquare c z (after_term-square t h c ∙ e)

-- ---- the places behind items, sequences and expressions

abbrev behind_item : {two : Bool} → ItemPhrase two → ItemHole two → Place
behind_item (Plain p) h = AfterPrim p h
behind_item i h = AfterItem i h

abbrev behind_seq : {two : Bool} → SeqPhrase two → SeqHole two → Place
behind_seq (OneItem i) h = behind_item i (FirstItem h)
behind_seq (MoreItems s at i) h = behind_item i (NextItem s at h)

abbrev behind_expr : {two : Bool} → ExprPhrase two → ExprHole two → Place
behind_expr (OneSeq s) h = behind_seq s (FirstSeq h)
behind_expr (MoreSeqs e at s) h = behind_seq s (NextSeq e at h)

-- a place where an item has ended
record ItemEnds {two : Bool} (p : Place) (i : ItemPhrase two) (h : ItemHole two) : Type 0 where
  comma : (at : Span) → step p Comma at ≡ end_item i h Comma at
  bar : (at : Span) → step p Bar at ≡ end_item i h Bar at
  round : (at : Span) → step p CloseRound at ≡ end_item i h CloseRound at
  semicolon : (at : Span) → step p Semicolon at ≡ end_item i h Semicolon at

ends-item : {two : Bool} (i : ItemPhrase two) (h : ItemHole two) → ItemEnds (behind_item i h) i h
ends-item (Plain p) h = record { comma = λ at. refl; bar = λ at. refl; round = λ at. refl; semicolon = λ at. refl }
ends-item (Repeated p op b) h = record {
  comma = λ at. refl;
  bar = λ at. refl;
  round = λ at. refl;
  semicolon = λ at. refl;
}
ends-item (Counted s p o m a c n b d) h = record {
  comma = λ at. refl;
  bar = λ at. refl;
  round = λ at. refl;
  semicolon = λ at. refl;
}

-- a place where a sequence has ended
record SeqEnds {two : Bool} (p : Place) (s : SeqPhrase two) (h : SeqHole two) : Type 0 where
  comma : (at : Span) → step p Comma at ≡ Some (WantsItem (NextItem s at h))
  bar : (at : Span) → step p Bar at ≡ Some (WantsItem (FirstItem (NextSeq (with_seq h s) at (expr_hole h))))
  round : (at : Span) → step p CloseRound at ≡ close_group (expr_hole h) (with_seq h s) at
  semicolon : (at : Span) → step p Semicolon at ≡ close_expr (expr_hole h) (with_seq h s) at

seq-of_item : {two : Bool} (p : Place) (i : ItemPhrase two) (h : ItemHole two) → ItemEnds p i h
    → SeqEnds p (with_item h i) (seq_hole h)
seq-of_item p i h e = record { comma = e.comma; bar = e.bar; round = e.round; semicolon = e.semicolon }

ends-seq : {two : Bool} (s : SeqPhrase two) (h : SeqHole two) → SeqEnds (behind_seq s h) s h
ends-seq (OneItem i) h = seq-of_item (behind_item i (FirstItem h)) i (FirstItem h) (ends-item i (FirstItem h))
ends-seq (MoreItems s at i) h = seq-of_item (behind_item i (NextItem s at h)) i (NextItem s at h)
    (ends-item i (NextItem s at h))

after_expr-bar : {two : Bool} (e : ExprPhrase two) (h : ExprHole two) (at : Span)
    → step (behind_expr e h) Bar at ≡ Some (WantsItem (FirstItem (NextSeq e at h)))
after_expr-bar (OneSeq s) h at = (ends-seq s (FirstSeq h)).bar at
after_expr-bar (MoreSeqs e c s) h at = (ends-seq s (NextSeq e c h)).bar at

after_expr-round : {two : Bool} (e : ExprPhrase two) (h : ExprHole two) (at : Span)
    → step (behind_expr e h) CloseRound at ≡ close_group h e at
after_expr-round (OneSeq s) h at = (ends-seq s (FirstSeq h)).round at
after_expr-round (MoreSeqs e c s) h at = (ends-seq s (NextSeq e c h)).round at

after_expr-semicolon : {two : Bool} (e : ExprPhrase two) (h : ExprHole two) (at : Span)
    → step (behind_expr e h) Semicolon at ≡ close_expr h e at
after_expr-semicolon (OneSeq s) h at = (ends-seq s (FirstSeq h)).semicolon at
after_expr-semicolon (MoreSeqs e c s) h at = (ends-seq s (NextSeq e c h)).semicolon at

-- ---- no expression begins with the bracket that closes an empty group

record Starts (ts : List Token) : Type 0 where
  first : Token
  rest : List Token
  is : ts ≡ first ∷ rest
  same : (two : Bool) (o : Span) (g : GroupHole two) → step (InGroup o g) first.kind first.span ≡ start_item
      (FirstItem (FirstSeq (OfGroup o g))) first.kind first.span

starts-append : (a b : List Token) → Starts a → Starts (a ++ b)
starts-append a b s = record { first = s.first; rest = s.rest ++ b; is = ap (λ l. l ++ b) s.is; same = s.same }

mutual
  starts-expr : {two : Bool} (e : ExprPhrase two) → Starts (expr_tokens e)
  starts-expr (OneSeq s) = starts-seq s
  starts-expr (MoreSeqs e at s) = starts-append _ _ (starts-expr e)

  starts-seq : {two : Bool} (s : SeqPhrase two) → Starts (seq_tokens s)
  starts-seq (OneItem i) = starts-item i
  starts-seq (MoreItems s at i) = starts-append _ _ (starts-seq s)

  starts-item : {two : Bool} (i : ItemPhrase two) → Starts (item_tokens i)
  starts-item (Plain p) = starts-prim p
  starts-item (Repeated p op at) = starts-append _ _ (starts-prim p)
  starts-item (Counted s p o m a c n b d) = starts-append _ _ (starts-prim p)

  starts-prim : {two : Bool} (p : PrimPhrase two) → Starts (prim_tokens p)
  starts-prim (Terminal o t c) = record { first = token OpenSquare o; rest = _; is = refl; same = λ _ _ _. refl }
  starts-prim (Action o n c) = record { first = token OpenCurly o; rest = _; is = refl; same = λ _ _ _. refl }
  starts-prim (Call at) = record { first = token Name at; rest = _; is = refl; same = λ _ _ _. refl }
  starts-prim (Grouped (EmptyGroup o c)) = record {
    first = token OpenRound o;
    rest = _;
    is = refl;
    same = λ _ _ _. refl;
  }
  starts-prim (Grouped (FullGroup o e c)) = record {
    first = token OpenRound o;
    rest = _;
    is = refl;
    same = λ _ _ _. refl;
  }
  starts-prim (Hold at o t c colon g) = record { first = token HoldWord at; rest = _; is = refl; same = λ _ _ _. refl }
  starts-prim (Try at g a h th k) = record { first = token TryWord at; rest = _; is = refl; same = λ _ _ _. refl }

walk-starts : {two : Bool} (ts : List Token) (o : Span) (g : GroupHole two) → Starts ts
    → walk (InGroup o g) ts ≡ walk (WantsItem (FirstItem (FirstSeq (OfGroup o g)))) ts
walk-starts {two} ts o g s = rw (s.is) (ap (option_and_then (λ q. walk q s.rest)) (s.same two o g))

-- ---- expressions

walk-grouped : {two : Bool} (g : GroupPhrase two) (h : ItemHole two) (z : List Token)
    → walk (WantsItem h) (group_tokens g ++ z) ≡ walk (WantsGroup (AsPrim h)) (group_tokens g ++ z)
walk-grouped (EmptyGroup o c) h z = refl
walk-grouped (FullGroup o e c) h z = refl

walk-op : {two : Bool} (p : PrimPhrase two) (op : Operator) (at : Span) (h : ItemHole two) (z : List Token)
    → walk (AfterPrim p h) (token (operator_kind op) at ∷ z) ≡ walk (AfterItem (Repeated p op at) h) z
walk-op p StarOp at h z = refl
walk-op p PlusOp at h z = refl
walk-op p OptOp at h z = refl

walk-counted : {two : Bool} (s : Second two) (p : PrimPhrase two) (o : Span) (m : Numeral) (a c : Span) (n : Numeral)
    (b d : Span) (h : ItemHole two) (z : List Token)
    → walk (AfterPrim p h) (token OpenCurly o ∷ token (numeral_kind m) a ∷ token Comma c ∷ token
    (numeral_kind n) b ∷ token CloseCurly d ∷ z) ≡ walk (AfterItem (Counted s p o m a c n b d) h) z
walk-counted {two} s p o m a c n b d h z =
    walk-kind (AfterPrim p h) (λ x. WantsLeast x p o h) (second two) s OpenCurly o
    (token (numeral_kind m) a ∷ token Comma c ∷ token (numeral_kind n) b ∷ token CloseCurly d ∷ z) refl
    (second_is two s)
    ∙ (walk-kind (WantsLeast s p o h) (λ x. AfterLeast s p o x a h) (numeral_of (numeral_kind m)) m (numeral_kind m) a
    (token Comma c ∷ token (numeral_kind n) b ∷ token CloseCurly d ∷ z) refl (numeral_is m)
    ∙ walk-kind (WantsMost s p o m a c h) (λ x. AfterMost s p o m a c x b h) (numeral_of (numeral_kind n)) n
    (numeral_kind n) b (token CloseCurly d ∷ z) refl (numeral_is n))

mutual
  walk-expr : {two : Bool} (e : ExprPhrase two) (h : ExprHole two) (z : List Token)
      → walk (WantsItem (FirstItem (FirstSeq h))) (expr_tokens e ++ z) ≡ walk (behind_expr e h) z
  walk-expr (OneSeq s) h z = walk-seq s (FirstSeq h) z
  walk-expr (MoreSeqs e at s) h z =
      rw (append_assoc (expr_tokens e) (token Bar at ∷ seq_tokens s) z)
      (walk-expr e h (token Bar at ∷ (seq_tokens s ++ z))
      ∙ (walk-step (behind_expr e h) _ Bar at (seq_tokens s ++ z) (after_expr-bar e h at)
      ∙ walk-seq s (NextSeq e at h) z))

  walk-seq : {two : Bool} (s : SeqPhrase two) (h : SeqHole two) (z : List Token)
      → walk (WantsItem (FirstItem h)) (seq_tokens s ++ z) ≡ walk (behind_seq s h) z
  walk-seq (OneItem i) h z = walk-item i (FirstItem h) z
  walk-seq (MoreItems s at i) h z =
      rw (append_assoc (seq_tokens s) (token Comma at ∷ item_tokens i) z)
      (walk-seq s h (token Comma at ∷ (item_tokens i ++ z))
      ∙ (walk-step (behind_seq s h) _ Comma at (item_tokens i ++ z) ((ends-seq s h).comma at)
      ∙ walk-item i (NextItem s at h) z))

  walk-item : {two : Bool} (i : ItemPhrase two) (h : ItemHole two) (z : List Token)
      → walk (WantsItem h) (item_tokens i ++ z) ≡ walk (behind_item i h) z
  walk-item (Plain p) h z = walk-prim p h z
  walk-item (Repeated p op at) h z =
      rw (append_assoc (prim_tokens p) (token (operator_kind op) at ∷ []) z)
      (walk-prim p h (token (operator_kind op) at ∷ z) ∙ walk-op p op at h z)
  walk-item (Counted s p o m a c n b d) h z =
      rw (append_assoc (prim_tokens p) (token OpenCurly o ∷ token (numeral_kind m) a ∷ token Comma c ∷ token
      (numeral_kind n) b ∷ token CloseCurly d ∷ []) z)
      (walk-prim p h (token OpenCurly o ∷ token (numeral_kind m) a ∷ token Comma c ∷ token
      (numeral_kind n) b ∷ token CloseCurly d ∷ z)
      ∙ walk-counted s p o m a c n b d h z)

  walk-prim : {two : Bool} (p : PrimPhrase two) (h : ItemHole two) (z : List Token)
      → walk (WantsItem h) (prim_tokens p ++ z) ≡ walk (AfterPrim p h) z
  walk-prim (Terminal o t c) h z =
      rw (append_assoc (term_tokens t) (token CloseSquare c ∷ []) z) (walk-square t (OfTerminal o h) c _ z refl)
  walk-prim (Action o n c) h z = refl
  walk-prim (Call at) h z = refl
  walk-prim (Grouped g) h z = walk-grouped g h z ∙ walk-group g (AsPrim h) z
  walk-prim (Hold a o t c colon g) h z =
      rw (append_assoc (term_tokens t) (token CloseSquare c ∷ token Colon colon ∷ group_tokens g) z)
      (walk-square t (OfGuard a o h) c _ (token Colon colon ∷ (group_tokens g ++ z)) refl
      ∙ walk-group g (OfHold a o t c colon h) z)
  walk-prim (Try at body a trap th last) h z =
      rw (
        append_assoc (group_tokens body) (token AbortWord a ∷
            (group_tokens trap ++ token ThenWord th ∷ group_tokens last)) z,
        append_assoc (group_tokens trap)
            (token ThenWord th ∷ group_tokens last) z,
      )
      (walk-group body (OfBody at h)
      (token AbortWord a ∷ (group_tokens trap ++ token ThenWord th ∷ (group_tokens last ++ z)))
      ∙ (walk-group trap (OfTrap at body a h) (token ThenWord th ∷ (group_tokens last ++ z))
      ∙ walk-group last (OfAfter at body a trap th h) z))

  walk-group : {two : Bool} (g : GroupPhrase two) (h : GroupHole two) (z : List Token)
      → walk (WantsGroup h) (group_tokens g ++ z) ≡ walk (with_group h g) z
  walk-group (EmptyGroup o c) h z = refl
  walk-group (FullGroup o e c) h z =
      rw (append_assoc (expr_tokens e) (token CloseRound c ∷ []) z)
      (walk-starts _ o h (starts-append (expr_tokens e) (token CloseRound c ∷ z) (starts-expr e))
      ∙ (walk-expr e (OfGroup o h) (token CloseRound c ∷ z) ∙ walk-step (behind_expr e (OfGroup o h)) _ CloseRound c z
      (after_expr-round e (OfGroup o h) c)))

-- ---- declarations

abbrev behind_input : {two : Bool} → InputPhrase two → InputHole two → Place
behind_input (OneWire at) h = AfterInputName at h
behind_input i h = AfterInput i h

abbrev behind_inputs : {two : Bool} → InputsPhrase two → Front two → Span → Place
behind_inputs (OneInput i) f at = behind_input i (FirstInput f at)
behind_inputs (MoreInputs is c i) f at = behind_input i (NextInput f at is c)

walk-input : {two : Bool} (i : InputPhrase two) (h : InputHole two) (z : List Token)
    → walk (WantsInput h) (input_tokens i ++ z) ≡ walk (behind_input i h) z
walk-input (OneWire at) h z = refl
walk-input {two} (Bus s n c w to) h z =
    walk-kind (AfterInputName n h) (λ x. WantsWidth x n c h) (second two) s Colon c (token (width_kind w) to ∷ z) refl
    (second_is two s)
    ∙ walk-kind (WantsWidth s n c h) (λ x. AfterInput (Bus s n c x to) h) (width_of (width_kind w)) w
    (width_kind w) to z refl (width_is w)

input-comma : {two : Bool} (i : InputPhrase two) (h : InputHole two) (at : Span)
    → step (behind_input i h) Comma at ≡ end_input i h Comma at
input-comma (OneWire n) h at = refl
input-comma (Bus s n c w to) h at = refl

input-semicolon : {two : Bool} (i : InputPhrase two) (h : InputHole two) (at : Span)
    → step (behind_input i h) Semicolon at ≡ end_input i h Semicolon at
input-semicolon (OneWire n) h at = refl
input-semicolon (Bus s n c w to) h at = refl

inputs-comma : {two : Bool} (is : InputsPhrase two) (f : Front two) (a at : Span)
    → step (behind_inputs is f a) Comma at ≡ Some (WantsInput (NextInput f a is at))
inputs-comma (OneInput i) f a at = input-comma i (FirstInput f a) at
inputs-comma (MoreInputs is c i) f a at = input-comma i (NextInput f a is c) at

inputs-semicolon : {two : Bool} (is : InputsPhrase two) (f : Front two) (a at : Span)
    → step (behind_inputs is f a) Semicolon at ≡ Some (InDecls (with_next f (InputDecl a is at)))
inputs-semicolon (OneInput i) f a at = input-semicolon i (FirstInput f a) at
inputs-semicolon (MoreInputs is c i) f a at = input-semicolon i (NextInput f a is c) at

walk-inputs : {two : Bool} (is : InputsPhrase two) (f : Front two) (a : Span) (z : List Token)
    → walk (WantsInput (FirstInput f a)) (inputs_tokens is ++ z) ≡ walk (behind_inputs is f a) z
walk-inputs (OneInput i) f a z = walk-input i (FirstInput f a) z
walk-inputs (MoreInputs is c i) f a z =
    rw (append_assoc (inputs_tokens is) (token Comma c ∷ input_tokens i) z)
    (walk-inputs is f a (token Comma c ∷ (input_tokens i ++ z))
    ∙ (walk-step (behind_inputs is f a) _ Comma c (input_tokens i ++ z) (inputs-comma is f a c)
    ∙ walk-input i (NextInput f a is c) z))

walk-names : {two : Bool} (ns : NamesPhrase) (f : Front two) (a : Span) (z : List Token)
    → walk (WantsName (FirstName f a)) (names_tokens ns ++ z) ≡ walk (AfterName ns f a) z
walk-names (OneName at) f a z = refl
walk-names (MoreNames ns c at) f a z =
    rw (append_assoc (names_tokens ns) (token Comma c ∷ token Name at ∷ []) z)
    (walk-names ns f a (token Comma c ∷ token Name at ∷ z))

walk-sets : {two : Bool} (ss : SetsPhrase) (l : LevelFront two) (z : List Token)
    → walk (InLevel l NoSets) (sets_tokens ss ++ z) ≡ walk (InLevel l ss) z
walk-sets NoSets l z = refl
walk-sets (MoreSets ss at c b to e) l z =
    rw (append_assoc (sets_tokens ss) (token Name at ∷ token Colon c ∷ token (bit_kind b) to ∷ token Semicolon e ∷ [])
    z)
    (walk-sets ss l (token Name at ∷ token Colon c ∷ token (bit_kind b) to ∷ token Semicolon e ∷ z)
    ∙ walk-kind (AfterSetColon l ss at c) (λ x. AfterSetBit l ss at c x to) (bit_of (bit_kind b)) b (bit_kind b) to
    (token Semicolon e ∷ z) refl (bit_is b))

walk-decl : {two : Bool} (d : DeclPhrase two) (f : Front two) (z : List Token)
    → walk (InDecls f) (decl_tokens d ++ z) ≡ walk (InDecls (with_next f d)) z
walk-decl (InputDecl a is e) f z =
    rw (append_assoc (inputs_tokens is) (token Semicolon e ∷ []) z)
    (walk-inputs is f a (token Semicolon e ∷ z) ∙ walk-step (behind_inputs is f a) _ Semicolon e z
    (inputs-semicolon is f a e))
walk-decl (ActionDecl a ns e) f z = rw (append_assoc (names_tokens ns) (token Semicolon e ∷ []) z)
    (walk-names ns f a (token Semicolon e ∷ z))
walk-decl (LevelDecl a n q b to o ss c) f z =
    rw (append_assoc (sets_tokens ss) (token CloseCurly c ∷ []) z)
    (walk-kind (AfterLevelEquals f a n q) (λ x. AfterLevelBit f a n q x to) (bit_of (bit_kind b)) b (bit_kind b) to
    (token OpenCurly o ∷ (sets_tokens ss ++ token CloseCurly c ∷ z)) refl (bit_is b)
    ∙ walk-sets ss (level_front f a n q b to o) (token CloseCurly c ∷ z))
walk-decl (ProdDecl a n q x e) f z =
    rw (append_assoc (expr_tokens x) (token Semicolon e ∷ []) z)
    (walk-expr x (OfProd f a n q) (token Semicolon e ∷ z) ∙ walk-step (behind_expr x (OfProd f a n q)) _ Semicolon e z
    (after_expr-semicolon x (OfProd f a n q) e))

abbrev front_of : (two : Bool) → Span → Span → Span → DeclsPhrase two → Front two
front_of two a b c ds = record { spec_at = a; version_at = b; start_at = c; decls = ds }

walk-decls : {two : Bool} (ds : DeclsPhrase two) (a b c : Span) (z : List Token)
    → walk (InDecls (first_front two a b c)) (decls_tokens ds ++ z) ≡ walk (InDecls (front_of two a b c ds)) z
walk-decls NoDecls a b c z = refl
walk-decls {two} (MoreDecls ds d) a b c z =
    rw (append_assoc (decls_tokens ds) (decl_tokens d) z) (walk-decls ds a b c (decl_tokens d ++ z)
    ∙ walk-decl d (front_of two a b c ds) z)

walk-head : (two : Bool) (a b c : Span) (z : List Token) → walk Start (head_tokens two a b c ++ z) ≡ walk
    (InDecls (first_front two a b c)) z
walk-head false a b c z = refl
walk-head true a b c z = refl

-- a text is walked over as a whole
pub walk-text : (w : TextPhrase) → walk Start (text_tokens w) ≡ Some (Whole w)
walk-text (OfVersion two p) =
    walk-head two p.spec_at p.version_at p.start_at _
    ∙ (walk-decls p.decls p.spec_at p.version_at p.start_at _
    ∙ (walk-expr p.expr (OfMain (front_of two p.spec_at p.version_at p.start_at p.decls) p.main_at p.equals_at)
    (token Semicolon p.end_at ∷ [])
    ∙ walk-step
    (behind_expr p.expr (OfMain (front_of two p.spec_at p.version_at p.start_at p.decls) p.main_at p.equals_at)) _
    Semicolon p.end_at []
    (after_expr-semicolon p.expr
    (OfMain (front_of two p.spec_at p.version_at p.start_at p.decls) p.main_at p.equals_at) p.end_at)))

-- ---- the two together

-- what is walked over as a whole text is this text
pub whole_is_text : (ts : List Token) (w : TextPhrase) → walk Start ts ≡ Some (Whole w) → text_tokens w ≡ ts
whole_is_text ts w e = walk-before ts Start (Whole w) e

-- no list of tokens is two texts
pub one_phrase : (v w : TextPhrase) → text_tokens v ≡ text_tokens w → v ≡ w
one_phrase v w e = let both : Some (Whole v) ≡ Some (Whole w) = sym (walk-text v)
    ∙ (ap (walk Start) e ∙ walk-text w) in cc

-- what the walk passes begins a text
pub passed_begins : (ts : List Token) (p : Place) → walk Start ts ≡ Some p → Begins ts
passed_begins ts p e =
    let f = finish p in
    (f.0, (f.1, walk-before f.0 p (Whole f.1) f.2 ∙ ap (λ front. front ++ f.0) (walk-before ts Start p e)))

-- what begins a text, the walk passes
pub begins_passed : (ts : List Token) → Begins ts → (p : Place) × (walk Start ts ≡ Some p)
begins_passed ts b =
    let r = walk-append ts b.0 Start (Whole b.1.0) (ap (walk Start) (sym b.1.1) ∙ walk-text b.1.0) in
    (r.0, r.1)
