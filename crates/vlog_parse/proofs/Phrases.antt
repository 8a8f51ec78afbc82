-- A phrase is walked over, where it nests no deeper than 64.
use Rattle.std.proofs.Common.{◌≡◌, ℕ, ◌+◌, ◌≤◌, ◌<◌, max, List, [], ◌∷◌, ◌++◌, Option, Some, None, Bool}
use Rattle.std.proofs.Common.{true}
use Rattle.std.proofs.Common.{false, refl, ap, ◌∙◌, append_assoc, ltb, inl, inr, ◌⊎◌, arith}
use Rattle.std.proofs.lemmas.Bool.{false≢true}
use Rattle.std.proofs.lemmas.Bool.Decides.{nat_tests}
use Rattle.std.specs.Prelude.{IsTrue, not, option_map, option_and_then, if◌then◌else◌}
use mathlib.Core.Bool.{Bool-discrete}
use mathlib.Core.HLevel.{hedberg}
use Rattle.pbs_base.specs.declared.refusal.Span.{Span}
use Rattle.net_core.specs.declared.gate.GateKind.{GateKind}
use Rattle.net_core.specs.declared.gate.GateKind.TheVariants as gate
use Rattle.vlog_text.specs.declared.raw.DeclKind.{DeclKind}
use Rattle.vlog_text.specs.declared.token.Token.{Token}
use Rattle.vlog_text.specs.declared.token.TokenKind.TheVariants.{OpenRound, CloseRound, Comma, Semicolon, Tilde}
use Rattle.vlog_text.specs.declared.token.TokenKind.TheVariants.{Ampersand, Caret, Bar, EndmoduleWord, GateWord, Equals}
use Rattle.vlog_text.specs.declared.token.TokenKind.TheVariants.{Arrow}
use Rattle.vlog_text.specs.Grammar.{token, NamePhrase, name_token, name_kind, OperandPhrase, Named, Constant}
use Rattle.vlog_text.specs.Grammar.{operand_token, UnitPhrase, Negated, Bracketed, Lone, AndPhrase, OneUnit, MoreUnits}
use Rattle.vlog_text.specs.Grammar.{XorPhrase, OneAnd, MoreAnds, OrPhrase, OneXor, MoreXors, unit_tokens, and_tokens}
use Rattle.vlog_text.specs.Grammar.{xor_tokens, or_tokens, unit_depth, and_depth, xor_depth, or_depth, NamesPhrase}
use Rattle.vlog_text.specs.Grammar.{OneName, MoreNames, OperandsPhrase, OneOperand, MoreOperands, InstancePhrase}
use Rattle.vlog_text.specs.Grammar.{Unnamed, Instance, is_single, ItemPhrase, Declare, ManyGate, SingleGate, Assign}
use Rattle.vlog_text.specs.Grammar.{Always, ItemsPhrase, NoItems, MoreItems, TextPhrase, names_tokens, operands_tokens}
use Rattle.vlog_text.specs.Grammar.{instance_tokens, item_tokens, items_tokens, text_tokens, item_depth}
use Rattle.vlog_text.specs.Grammar.{items_depth}
use Rattle.vlog_parse.specs.inner.Places.{Title, Head, OrHole, OfAssign, InRound, XorHole, FirstXor, NextXor, AndHole}
use Rattle.vlog_parse.specs.inner.Places.{FirstAnd, NextAnd, UnitHole, FirstUnit, NextUnit, UnderNot, FirstPort}
use Rattle.vlog_parse.specs.inner.Places.{NextPort}
use Rattle.vlog_parse.specs.inner.Places.{FirstDecl, NextDecl, PinFront, Place, Start, AfterModule, AfterTitle}
use Rattle.vlog_parse.specs.inner.Places.{WantsPort, AfterPort, InItems, WantsName, AfterName, AfterGateWord}
use Rattle.vlog_parse.specs.inner.Places.{AfterInstance}
use Rattle.vlog_parse.specs.inner.Places.{WantsTarget, AfterTarget, WantsPin, WantsNextPin, AfterPins, AfterAssign}
use Rattle.vlog_parse.specs.inner.Places.{AfterAssigned, AfterRegister}
use Rattle.vlog_parse.specs.inner.Places.{WantsUnit, AfterUnit, AfterEdge, AfterArrow, AfterTaken, Whole, or_nesting}
use Rattle.vlog_parse.specs.inner.Places.{xor_nesting, and_nesting, unit_nesting}
use Rattle.vlog_parse.specs.inner.Steps.{name_at, operand_at, single_or_many, with_port, with_name, with_item}
use Rattle.vlog_parse.specs.inner.Steps.{with_unit, titled}
use Rattle.vlog_parse.specs.inner.Steps.{gate_front, pin_front, edge, with_arity, with_pin, close_round, end_assign}
use Rattle.vlog_parse.specs.inner.Steps.{step, walk}

-- ---- what a kind of token stands for

name_is : (n : NamePhrase) → name_at (name_kind n.clock) n.at ≡ Some n
name_is n = by n.clock n.at
  where
    by : (b : Bool) (at : Span) → name_at (name_kind b) at ≡ Some (record { clock = b; at = at })
    by true at = refl
    by false at = refl

operand_is : (p : OperandPhrase) → operand_at (operand_token p).kind (operand_token p).span ≡ Some p
operand_is (Named n) = by n.clock n.at
  where
    by : (b : Bool) (at : Span) → operand_at (name_kind b) at ≡ Some (Named (record { clock = b; at = at }))
    by true at = refl
    by false at = refl
operand_is (Constant b at) = refl

-- one step of a walk
walk-step : (p q : Place) (t : Token) (z : List Token) → step p t.kind t.span ≡ Some q → walk p (t ∷ z) ≡ walk q z
walk-step p q t z e = ap (option_and_then (λ r. walk r z)) e

-- a step over a name, and over an operand
walk-name : (p : Place) (f : NamePhrase → Place) (n : NamePhrase) (z : List Token)
    → step p (name_kind n.clock) n.at ≡ option_map f (name_at (name_kind n.clock) n.at)
    → walk p (name_token n ∷ z) ≡ walk (f n) z
walk-name p f n z e = walk-step p (f n) (name_token n) z (e ∙ ap (option_map f) (name_is n))

walk-operand : (p : Place) (f : OperandPhrase → Place) (x : OperandPhrase) (z : List Token)
    → step p (operand_token x).kind (operand_token x).span
    ≡ option_map f (operand_at (operand_token x).kind (operand_token x).span)
    → walk p (operand_token x ∷ z) ≡ walk (f x) z
walk-operand p f x z e = walk-step p (f x) (operand_token x) z (e ∙ ap (option_map f) (operand_is x))

-- ---- what is assigned

below : (n : ℕ) (o : Option Place) → n < 64 → (if ltb n 64 then o else None) ≡ o
below n o h = by (ltb n 64) refl
  where
    by : (b : Bool) → ltb n 64 ≡ b → (if b then o else None) ≡ o
    by true e = refl
    by false e = absurd (grind (arith, nat_tests))

start-lone : (h : UnitHole) (p : OperandPhrase) → step (WantsUnit h) (operand_token p).kind (operand_token p).span
    ≡ option_map (λ x. with_unit h (Lone x)) (operand_at (operand_token p).kind (operand_token p).span)
start-lone h (Named n) = by n.clock n.at
  where
    by : (b : Bool) (at : Span) → step (WantsUnit h) (name_kind b) at
        ≡ option_map (λ x. with_unit h (Lone x)) (operand_at (name_kind b) at)
    by true at = refl
    by false at = refl
start-lone h (Constant b at) = refl

left_of : (a b n : ℕ) → max a b + n ≤ 64 → a + n ≤ 64
left_of a b n h = grind (arith, nat_tests)

right_of : (a b n : ℕ) → max a b + n ≤ 64 → b + n ≤ 64
right_of a b n h = grind (arith, nat_tests)

-- the places behind phrases of several parts
abbrev behind_xor : XorPhrase → XorHole → Place
behind_xor (OneAnd a) h = AfterUnit a (FirstAnd h)
behind_xor (MoreAnds x at a) h = AfterUnit a (NextAnd x at h)

abbrev behind_or : OrPhrase → OrHole → Place
behind_or (OneXor x) h = behind_xor x (FirstXor h)
behind_or (MoreXors o at x) h = behind_xor x (NextXor o at h)

step-caret : (x : XorPhrase) (h : XorHole) (at : Span)
    → step (behind_xor x h) Caret at ≡ Some (WantsUnit (FirstUnit (NextAnd x at h)))
step-caret (OneAnd a) h at = refl
step-caret (MoreAnds x b a) h at = refl

step-bar : (o : OrPhrase) (h : OrHole) (at : Span)
    → step (behind_or o h) Bar at ≡ Some (WantsUnit (FirstUnit (FirstAnd (NextXor o at h))))
step-bar (OneXor (OneAnd a)) h at = refl
step-bar (OneXor (MoreAnds x b a)) h at = refl
step-bar (MoreXors o c (OneAnd a)) h at = refl
step-bar (MoreXors o c (MoreAnds x b a)) h at = refl

step-round : (o : OrPhrase) (h : OrHole) (at : Span) → step (behind_or o h) CloseRound at ≡ close_round h o at
step-round (OneXor (OneAnd a)) h at = refl
step-round (OneXor (MoreAnds x b a)) h at = refl
step-round (MoreXors o c (OneAnd a)) h at = refl
step-round (MoreXors o c (MoreAnds x b a)) h at = refl

step-semicolon : (o : OrPhrase) (h : OrHole) (at : Span) → step (behind_or o h) Semicolon at ≡ end_assign h o at
step-semicolon (OneXor (OneAnd a)) h at = refl
step-semicolon (OneXor (MoreAnds x b a)) h at = refl
step-semicolon (MoreXors o c (OneAnd a)) h at = refl
step-semicolon (MoreXors o c (MoreAnds x b a)) h at = refl

mutual
  walk-unit : (u : UnitPhrase) (h : UnitHole) (z : List Token) → unit_depth u + unit_nesting h ≤ 64
      → walk (WantsUnit h) (unit_tokens u ++ z) ≡ walk (with_unit h u) z
  walk-unit (Negated at u) h z d =
      walk-step (WantsUnit h) _ (token Tilde at) (unit_tokens u ++ z) (below (unit_nesting h) _ (omega arith))
      ∙ walk-unit u (UnderNot at h) z (omega arith)
  walk-unit (Bracketed o t c) h z d =
      walk-step (WantsUnit h) _ (token OpenRound o) ((or_tokens t ++ token CloseRound c ∷ []) ++ z)
      (below (unit_nesting h) _ (omega arith))
      ∙ (ap (walk (WantsUnit (FirstUnit (FirstAnd (FirstXor (InRound o h))))))
      (append_assoc (or_tokens t) (token CloseRound c ∷ []) z)
      ∙ (walk-or t (InRound o h) (token CloseRound c ∷ z) (omega arith)
      ∙ walk-step (behind_or t (InRound o h)) _ (token CloseRound c) z (step-round t (InRound o h) c)))
  walk-unit (Lone p) h z d = walk-operand (WantsUnit h) (λ x. with_unit h (Lone x)) p z (start-lone h p)

  walk-and : (a : AndPhrase) (h : AndHole) (z : List Token) → and_depth a + and_nesting h ≤ 64
      → walk (WantsUnit (FirstUnit h)) (and_tokens a ++ z) ≡ walk (AfterUnit a h) z
  walk-and (OneUnit u) h z d = walk-unit u (FirstUnit h) z d
  walk-and (MoreUnits a at u) h z d =
      ap (walk (WantsUnit (FirstUnit h))) (append_assoc (and_tokens a) (token Ampersand at ∷ unit_tokens u) z)
      ∙ (walk-and a h (token Ampersand at ∷ (unit_tokens u ++ z)) (left_of (and_depth a) (unit_depth u) _ d)
      ∙ walk-unit u (NextUnit a at h) z (right_of (and_depth a) (unit_depth u) _ d))

  walk-xor : (x : XorPhrase) (h : XorHole) (z : List Token) → xor_depth x + xor_nesting h ≤ 64
      → walk (WantsUnit (FirstUnit (FirstAnd h))) (xor_tokens x ++ z) ≡ walk (behind_xor x h) z
  walk-xor (OneAnd a) h z d = walk-and a (FirstAnd h) z d
  walk-xor (MoreAnds x at a) h z d =
      ap (walk (WantsUnit (FirstUnit (FirstAnd h)))) (append_assoc (xor_tokens x) (token Caret at ∷ and_tokens a) z)
      ∙ (walk-xor x h (token Caret at ∷ (and_tokens a ++ z)) (left_of (xor_depth x) (and_depth a) _ d)
      ∙ (walk-step (behind_xor x h) _ (token Caret at) (and_tokens a ++ z) (step-caret x h at)
      ∙ walk-and a (NextAnd x at h) z (right_of (xor_depth x) (and_depth a) _ d)))

  walk-or : (o : OrPhrase) (h : OrHole) (z : List Token) → or_depth o + or_nesting h ≤ 64
      → walk (WantsUnit (FirstUnit (FirstAnd (FirstXor h)))) (or_tokens o ++ z) ≡ walk (behind_or o h) z
  walk-or (OneXor x) h z d = walk-xor x (FirstXor h) z d
  walk-or (MoreXors o at x) h z d =
      ap (walk (WantsUnit (FirstUnit (FirstAnd (FirstXor h)))))
      (append_assoc (or_tokens o) (token Bar at ∷ xor_tokens x) z)
      ∙ (walk-or o h (token Bar at ∷ (xor_tokens x ++ z)) (left_of (or_depth o) (xor_depth x) _ d)
      ∙ (walk-step (behind_or o h) _ (token Bar at) (xor_tokens x ++ z) (step-bar o h at)
      ∙ walk-xor x (NextXor o at h) z (right_of (or_depth o) (xor_depth x) _ d)))

-- ---- lists

walk-ports : (ns : NamesPhrase) (t : Title) (z : List Token)
    → walk (WantsPort (FirstPort t)) (names_tokens ns ++ z) ≡ walk (AfterPort t ns) z
walk-ports (OneName n) t z = walk-name (WantsPort (FirstPort t)) (λ x. with_port (FirstPort t) x) n z refl
walk-ports (MoreNames ns c n) t z =
    ap (walk (WantsPort (FirstPort t))) (append_assoc (names_tokens ns) (token Comma c ∷ name_token n ∷ []) z)
    ∙ (walk-ports ns t (token Comma c ∷ name_token n ∷ z)
    ∙ walk-name (WantsPort (NextPort t ns c)) (λ x. with_port (NextPort t ns c) x) n z refl)

walk-names : (ns : NamesPhrase) (f : Head) (k : DeclKind) (at : Span) (z : List Token)
    → walk (WantsName (FirstDecl f k at)) (names_tokens ns ++ z) ≡ walk (AfterName f k at ns) z
walk-names (OneName n) f k at z =
    walk-name (WantsName (FirstDecl f k at)) (λ x. with_name (FirstDecl f k at) x) n z refl
walk-names (MoreNames ns c n) f k at z =
    ap (walk (WantsName (FirstDecl f k at))) (append_assoc (names_tokens ns) (token Comma c ∷ name_token n ∷ []) z)
    ∙ (walk-names ns f k at (token Comma c ∷ name_token n ∷ z)
    ∙ walk-name (WantsName (NextDecl f k at ns c)) (λ x. with_name (NextDecl f k at ns c) x) n z refl)

many_is : (k : GateKind) (many : IsTrue (not (is_single k))) → single_or_many k ≡ inr many
many_is gate.Buf many = absurd (false≢true many)
many_is gate.Not many = absurd (false≢true many)
many_is gate.And many = ap inr (hedberg Bool-discrete true true refl many)
many_is gate.Or many = ap inr (hedberg Bool-discrete true true refl many)
many_is gate.Nand many = ap inr (hedberg Bool-discrete true true refl many)
many_is gate.Nor many = ap inr (hedberg Bool-discrete true true refl many)
many_is gate.Xor many = ap inr (hedberg Bool-discrete true true refl many)
many_is gate.Xnor many = ap inr (hedberg Bool-discrete true true refl many)

single_is : (k : GateKind) (single : IsTrue (is_single k)) → single_or_many k ≡ inl single
single_is gate.Buf single = ap inl (hedberg Bool-discrete true true refl single)
single_is gate.Not single = ap inl (hedberg Bool-discrete true true refl single)
single_is _ single = absurd (false≢true single)

walk-pin : (g : PinFront) (p : OperandPhrase)
    (e : IsTrue (is_single g.gate.kind) ⊎ IsTrue (not (is_single g.gate.kind)))
    (z : List Token) → single_or_many g.gate.kind ≡ e
    → walk (WantsPin g) (operand_token p ∷ z) ≡ walk (with_arity g p e) z
walk-pin g p e z is =
    walk-operand (WantsPin g) (λ x. with_pin g x) p z refl ∙ ap (λ x. walk (with_arity g p x) z) is

walk-operands : (ps : OperandsPhrase) (g : PinFront) (many : IsTrue (not (is_single g.gate.kind))) (z : List Token)
    → walk (WantsPin g) (operands_tokens ps ++ z) ≡ walk (AfterPins g many ps) z
walk-operands (OneOperand p) g many z = walk-pin g p (inr many) z (many_is g.gate.kind many)
walk-operands (MoreOperands ps c p) g many z =
    ap (walk (WantsPin g)) (append_assoc (operands_tokens ps) (token Comma c ∷ operand_token p ∷ []) z)
    ∙ (walk-operands ps g many (token Comma c ∷ operand_token p ∷ z)
    ∙ walk-operand (WantsNextPin g many ps c) (λ x. AfterPins g many (MoreOperands ps c x)) p z refl)

-- ---- items

-- a gate up to its pins
walk-gate : (f : Head) (k : GateKind) (at : Span) (i : InstancePhrase) (o : Span) (t : NamePhrase) (c : Span)
    (z : List Token)
    → walk (InItems f) (token (GateWord k) at ∷ (instance_tokens i ++ token OpenRound o ∷ name_token t ∷ token Comma c ∷
    z)) ≡ walk (WantsPin (pin_front (gate_front f k at i o) t c)) z
walk-gate f k at Unnamed o t c z =
    walk-name (WantsTarget (gate_front f k at Unnamed o)) (λ n. AfterTarget (gate_front f k at Unnamed o) n) t
    (token Comma c ∷ z) refl
walk-gate f k at (Instance n) o t c z =
    walk-step (AfterGateWord f k at) (AfterInstance f k at n) (name_token n)
    (token OpenRound o ∷ name_token t ∷ token Comma c ∷ z) (named n)
    ∙ walk-name (WantsTarget (gate_front f k at (Instance n) o)) (λ x. AfterTarget (gate_front f k at (Instance n) o) x)
    t (token Comma c ∷ z) refl
  where
    named : (n : NamePhrase) → step (AfterGateWord f k at) (name_kind n.clock) n.at ≡ Some (AfterInstance f k at n)
    named n = by n.clock n.at
      where
        by : (b : Bool) (s : Span) → step (AfterGateWord f k at) (name_kind b) s
            ≡ Some (AfterInstance f k at (record { clock = b; at = s }))
        by true s = refl
        by false s = refl

gate_end : (h : List Token) (w : Token) (i p : List Token) (o t c d e : Token) (z : List Token)
    → (w ∷ (i ++ o ∷ t ∷ c ∷ (p ++ d ∷ e ∷ []))) ++ z ≡ w ∷ (i ++ o ∷ t ∷ c ∷ (p ++ d ∷ e ∷ z))
gate_end h w i p o t c d e z = simp append_assoc

walk-item : (i : ItemPhrase) (f : Head) (z : List Token) → item_depth i ≤ 64
    → walk (InItems f) (item_tokens i ++ z) ≡ walk (InItems (with_item f i)) z
walk-item (Declare k at ns end) f z d =
    ap (walk (WantsName (FirstDecl f k at))) (append_assoc (names_tokens ns) (token Semicolon end ∷ []) z)
    ∙ walk-names ns f k at (token Semicolon end ∷ z)
walk-item (ManyGate k many at i o t c ps close end) f z d =
    ap (walk (InItems f)) (gate_end [] (token (GateWord k) at) (instance_tokens i) (operands_tokens ps)
    (token OpenRound o) (name_token t) (token Comma c) (token CloseRound close) (token Semicolon end) z)
    ∙ (walk-gate f k at i o t c (operands_tokens ps ++ token CloseRound close ∷ token Semicolon end ∷ z)
    ∙ walk-operands ps (pin_front (gate_front f k at i o) t c) many (token CloseRound close ∷ token Semicolon end ∷ z))
walk-item (SingleGate k single at i o t c p close end) f z d =
    ap (walk (InItems f)) (gate_end [] (token (GateWord k) at) (instance_tokens i) (operand_token p ∷ [])
    (token OpenRound o) (name_token t) (token Comma c) (token CloseRound close) (token Semicolon end) z)
    ∙ (walk-gate f k at i o t c (operand_token p ∷ token CloseRound close ∷ token Semicolon end ∷ z)
    ∙ walk-pin (pin_front (gate_front f k at i o) t c) p (inl single) (token CloseRound close ∷ token Semicolon end ∷ z)
    (single_is k single))
walk-item (Assign at t q o end) f z d =
    walk-name (AfterAssign f at) (λ n. AfterAssigned f at n) t
    (token Equals q ∷ ((or_tokens o ++ token Semicolon end ∷ []) ++ z)) refl
    ∙ (ap (walk (WantsUnit (FirstUnit (FirstAnd (FirstXor (OfAssign f at t q))))))
    (append_assoc (or_tokens o) (token Semicolon end ∷ []) z)
    ∙ (walk-or o (OfAssign f at t q) (token Semicolon end ∷ z) (omega (arith, d))
    ∙ walk-step (behind_or o (OfAssign f at t q)) _ (token Semicolon end) z (step-semicolon o (OfAssign f at t q) end)))
walk-item (Always a b c p k e t r x end) f z d =
    walk-name (AfterEdge (edge f a b c p k e)) (λ n. AfterRegister (edge f a b c p k e) n) t
    (token Arrow r ∷ operand_token x ∷ token Semicolon end ∷ z) refl
    ∙ walk-operand (AfterArrow (edge f a b c p k e) t r) (λ y. AfterTaken (edge f a b c p k e) t r y) x
    (token Semicolon end ∷ z) refl

left_most : (a b : ℕ) → max a b ≤ 64 → a ≤ 64
left_most a b h = grind (arith, nat_tests)

right_most : (a b : ℕ) → max a b ≤ 64 → b ≤ 64
right_most a b h = grind (arith, nat_tests)

abbrev headed : Title → NamesPhrase → Span → Span → ItemsPhrase → Head
headed t ns c s is = record { title = t; ports = ns; close_at = c; start_at = s; items = is }

walk-items : (is : ItemsPhrase) (t : Title) (ns : NamesPhrase) (c s : Span) (z : List Token) → items_depth is ≤ 64
    → walk (InItems (headed t ns c s NoItems)) (items_tokens is ++ z) ≡ walk (InItems (headed t ns c s is)) z
walk-items NoItems t ns c s z d = refl
walk-items (MoreItems is i) t ns c s z d =
    ap (walk (InItems (headed t ns c s NoItems))) (append_assoc (items_tokens is) (item_tokens i) z)
    ∙ (walk-items is t ns c s (item_tokens i ++ z) (left_most (items_depth is) (item_depth i) d)
    ∙ walk-item i (headed t ns c s is) z (right_most (items_depth is) (item_depth i) d))

-- a whole text is walked over
pub walk-text : (w : TextPhrase) → items_depth w.items ≤ 64 → walk Start (text_tokens w) ≡ Some (Whole w)
walk-text w d =
    let t : Title = titled w.module_at w.name w.open_at in
    let rest : List Token = items_tokens w.items ++ token EndmoduleWord w.end_at ∷ [] in
    walk-name (AfterModule w.module_at) (λ n. AfterTitle w.module_at n) w.name
    (token OpenRound w.open_at ∷ (names_tokens w.ports ++ token CloseRound w.close_at ∷ token Semicolon w.start_at ∷
    rest)) refl
    ∙ (walk-ports w.ports t (token CloseRound w.close_at ∷ token Semicolon w.start_at ∷ rest)
    ∙ walk-items w.items t w.ports w.close_at w.start_at (token EndmoduleWord w.end_at ∷ []) d)
