-- No place that is reached stands in a text that nests deeper than 64.
use Rattle.std.proofs.Common.{◌≡◌, ℕ, ◌+◌, ◌≤◌, ◌<◌, max, List, [], ◌∷◌, Option, Some, None, Bool, true}
use Rattle.std.proofs.Common.{false}
use Rattle.std.proofs.Common.{refl, subst, ltb, inl, inr, ◌⊎◌, arith}
use Rattle.std.proofs.lemmas.Bool.Decides.{nat_tests}
use Rattle.std.specs.Prelude.{IfSome, IsTrue, not, option_map, if◌then◌else◌, ⊤}
use Rattle.pbs_base.specs.declared.refusal.Span.{Span}
use Rattle.net_core.specs.declared.gate.GateKind.{GateKind}
use Rattle.vlog_text.specs.declared.token.Token.{Token}
use Rattle.vlog_text.specs.declared.token.TokenKind.{TokenKind}
use Rattle.vlog_text.specs.declared.token.TokenKind.TheVariants.{Clock, DeclWord, GateWord, ModuleWord}
use Rattle.vlog_text.specs.declared.token.TokenKind.TheVariants.{EndmoduleWord, AssignWord, AlwaysWord, PosedgeWord}
use Rattle.vlog_text.specs.declared.token.TokenKind.TheVariants.{OpenRound, CloseRound, Comma, Semicolon, Equals, Tilde}
use Rattle.vlog_text.specs.declared.token.TokenKind.TheVariants.{Ampersand, Caret, Bar, At, Arrow}
use Rattle.vlog_text.specs.Grammar.{UnitPhrase, Negated, Bracketed, Lone, AndPhrase, XorPhrase, OrPhrase, unit_depth}
use Rattle.vlog_text.specs.Grammar.{and_depth, xor_depth, or_depth, items_depth, is_single, NamePhrase, OperandPhrase}
use Rattle.vlog_parse.specs.inner.Places.{Head, OrHole, OfAssign, InRound, XorHole, FirstXor, NextXor, AndHole}
use Rattle.vlog_parse.specs.inner.Places.{FirstAnd}
use Rattle.vlog_parse.specs.inner.Places.{NextAnd, UnitHole, FirstUnit, NextUnit, UnderNot, PortHole, FirstPort}
use Rattle.vlog_parse.specs.inner.Places.{NextPort}
use Rattle.vlog_parse.specs.inner.Places.{DeclHole, FirstDecl, NextDecl, PinFront, Place, Start, AfterModule}
use Rattle.vlog_parse.specs.inner.Places.{AfterTitle, WantsPort, AfterPort, AfterPorts, InItems, WantsName, AfterName}
use Rattle.vlog_parse.specs.inner.Places.{AfterGateWord, AfterInstance, WantsTarget, AfterTarget, WantsPin}
use Rattle.vlog_parse.specs.inner.Places.{WantsNextPin}
use Rattle.vlog_parse.specs.inner.Places.{AfterPins, AfterPin, AfterManyGate, AfterSingleGate, AfterAssign}
use Rattle.vlog_parse.specs.inner.Places.{AfterAssigned}
use Rattle.vlog_parse.specs.inner.Places.{WantsUnit, AfterUnit, AfterAlways, AfterAt, AfterClockOpen, AfterPosedge}
use Rattle.vlog_parse.specs.inner.Places.{AfterClock, AfterEdge, AfterRegister, AfterArrow, AfterTaken, Whole}
use Rattle.vlog_parse.specs.inner.Places.{or_nesting}
use Rattle.vlog_parse.specs.inner.Places.{xor_nesting, and_nesting, unit_nesting}
use Rattle.vlog_parse.specs.inner.Steps.{name_at, operand_at, single_or_many, with_port, with_name}
use Rattle.vlog_parse.specs.inner.Steps.{with_unit, and_hole, with_and, xor_hole, with_xor, start_item, with_arity}
use Rattle.vlog_parse.specs.inner.Steps.{start_unit, close_round, end_assign, end_unit, step, walk}
use Rattle.vlog_parse.proofs.Walks.{at_some}

abbrev HeadShallow : Head → Type 0
HeadShallow f = items_depth f.items ≤ 64

abbrev mutual
  OrShallow : OrHole → Type 0
  OrShallow (OfAssign f at t q) = HeadShallow f
  OrShallow (InRound at h) = (unit_nesting h < 64) × UnitShallow h

  XorShallow : XorHole → Type 0
  XorShallow (FirstXor h) = OrShallow h
  XorShallow (NextXor o at h) = (or_depth o + or_nesting h ≤ 64) × OrShallow h

  AndShallow : AndHole → Type 0
  AndShallow (FirstAnd h) = XorShallow h
  AndShallow (NextAnd x at h) = (xor_depth x + xor_nesting h ≤ 64) × XorShallow h

  UnitShallow : UnitHole → Type 0
  UnitShallow (FirstUnit h) = AndShallow h
  UnitShallow (NextUnit a at h) = (and_depth a + and_nesting h ≤ 64) × AndShallow h
  UnitShallow (UnderNot at h) = (unit_nesting h < 64) × UnitShallow h

abbrev DeclShallow : DeclHole → Type 0
DeclShallow (FirstDecl f k at) = HeadShallow f
DeclShallow (NextDecl f k at ns c) = HeadShallow f

abbrev pub Shallow : Place → Type 0
Shallow (InItems f) = HeadShallow f
Shallow (WantsName h) = DeclShallow h
Shallow (AfterName f k at ns) = HeadShallow f
Shallow (AfterGateWord f k at) = HeadShallow f
Shallow (AfterInstance f k at n) = HeadShallow f
Shallow (WantsTarget g) = HeadShallow g.head
Shallow (AfterTarget g t) = HeadShallow g.head
Shallow (WantsPin g) = HeadShallow g.gate.head
Shallow (WantsNextPin g many ps c) = HeadShallow g.gate.head
Shallow (AfterPins g many ps) = HeadShallow g.gate.head
Shallow (AfterPin g single p) = HeadShallow g.gate.head
Shallow (AfterManyGate g many ps c) = HeadShallow g.gate.head
Shallow (AfterSingleGate g single p c) = HeadShallow g.gate.head
Shallow (AfterAssign f at) = HeadShallow f
Shallow (AfterAssigned f at t) = HeadShallow f
Shallow (WantsUnit h) = UnitShallow h
Shallow (AfterUnit a h) = (and_depth a + and_nesting h ≤ 64) × AndShallow h
Shallow (AfterAlways f a) = HeadShallow f
Shallow (AfterAt f a b) = HeadShallow f
Shallow (AfterClockOpen f a b c) = HeadShallow f
Shallow (AfterPosedge f a b c d) = HeadShallow f
Shallow (AfterClock f a b c d e) = HeadShallow f
Shallow (AfterEdge e) = HeadShallow e.head
Shallow (AfterRegister e t) = HeadShallow e.head
Shallow (AfterArrow e t r) = HeadShallow e.head
Shallow (AfterTaken e t r p) = HeadShallow e.head
Shallow (Whole p) = items_depth p.items ≤ 64
Shallow _ = ⊤

most : (a b n : ℕ) → a + n ≤ 64 → b + n ≤ 64 → max a b + n ≤ 64
most a b n h k = grind (arith, nat_tests)

most_of : (a b : ℕ) → a ≤ 64 → b ≤ 64 → max a b ≤ 64
most_of a b h k = grind (arith, nat_tests)

or_bounded : (h : OrHole) → OrShallow h → or_nesting h ≤ 64
or_bounded (OfAssign f at t q) s = omega arith
or_bounded (InRound at h) s = omega (arith, s.0)

xor_bounded : (h : XorHole) → XorShallow h → xor_nesting h ≤ 64
xor_bounded (FirstXor h) s = or_bounded h s
xor_bounded (NextXor o at h) s = or_bounded h s.1

and_bounded : (h : AndHole) → AndShallow h → and_nesting h ≤ 64
and_bounded (FirstAnd h) s = xor_bounded h s
and_bounded (NextAnd x at h) s = xor_bounded h s.1

unit_bounded : (h : UnitHole) → UnitShallow h → unit_nesting h ≤ 64
unit_bounded (FirstUnit h) s = and_bounded h s
unit_bounded (NextUnit a at h) s = and_bounded h s.1
unit_bounded (UnderNot at h) s = omega (arith, s.0)

shallow-with_unit : (h : UnitHole) (u : UnitPhrase) → unit_depth u + unit_nesting h ≤ 64 → UnitShallow h
    → Shallow (with_unit h u)
shallow-with_unit (FirstUnit h) u d s = (d, s)
shallow-with_unit (NextUnit a at h) u d s = (most (and_depth a) (unit_depth u) (and_nesting h) s.0 d, s.1)
shallow-with_unit (UnderNot at h) u d s = shallow-with_unit h (Negated at u) (omega arith) s.1

shallow-with_and : (h : AndHole) (a : AndPhrase) → and_depth a + and_nesting h ≤ 64 → AndShallow h
    → (xor_depth (with_and h a) + xor_nesting (and_hole h) ≤ 64) × XorShallow (and_hole h)
shallow-with_and (FirstAnd h) a d s = (d, s)
shallow-with_and (NextAnd x at h) a d s = (most (xor_depth x) (and_depth a) (xor_nesting h) s.0 d, s.1)

shallow-with_xor : (h : XorHole) (x : XorPhrase) → xor_depth x + xor_nesting h ≤ 64 → XorShallow h
    → (or_depth (with_xor h x) + or_nesting (xor_hole h) ≤ 64) × OrShallow (xor_hole h)
shallow-with_xor (FirstXor h) x d s = (d, s)
shallow-with_xor (NextXor o at h) x d s = (most (or_depth o) (xor_depth x) (or_nesting h) s.0 d, s.1)

shallow-with_both : (h : AndHole) (a : AndPhrase) → (and_depth a + and_nesting h ≤ 64) × AndShallow h
    → (or_depth (with_xor (and_hole h) (with_and h a)) + or_nesting (xor_hole (and_hole h)) ≤ 64)
    × OrShallow (xor_hole (and_hole h))
shallow-with_both h a s =
    let x = shallow-with_and h a s.0 s.1 in
    shallow-with_xor (and_hole h) (with_and h a) x.0 x.1

shallow-close : (h : OrHole) (o : OrPhrase) (at : Span) → (or_depth o + or_nesting h ≤ 64) × OrShallow h
    → IfSome (close_round h o at) Shallow
shallow-close (OfAssign f a t q) o at s = tt
shallow-close (InRound b h) o at s = shallow-with_unit h (Bracketed b o at) (omega (arith, s.0)) s.1.1

shallow-end : (h : OrHole) (o : OrPhrase) (at : Span) → (or_depth o + or_nesting h ≤ 64) × OrShallow h
    → IfSome (end_assign h o at) Shallow
shallow-end (OfAssign f a t q) o at s = most_of (items_depth f.items) (or_depth o) s.1 (omega (arith, s.0))
shallow-end (InRound b h) o at s = tt

shallow-end_unit : (a : AndPhrase) (h : AndHole) (k : TokenKind) (at : Span) → Shallow (AfterUnit a h)
    → IfSome (end_unit a h k at) Shallow
shallow-end_unit a h Ampersand at s = s
shallow-end_unit a h Caret at s = shallow-with_and h a s.0 s.1
shallow-end_unit a h Bar at s = shallow-with_both h a s
shallow-end_unit a h CloseRound at s = shallow-close (xor_hole (and_hole h)) _ at (shallow-with_both h a s)
shallow-end_unit a h Semicolon at s = shallow-end (xor_hole (and_hole h)) _ at (shallow-with_both h a s)
shallow-end_unit a h _ at s = tt

chosen : {A : Type 0} (n m : ℕ) (o : Option A) (P : A → Type 0) → (n < m → IfSome o P)
    → IfSome (if ltb n m then o else None) P
chosen n m o P h = by (ltb n m) refl
  where
    by : (b : Bool) → ltb n m ≡ b → IfSome (if b then o else None) P
    by true e = h (grind (arith, nat_tests))
    by false e = tt

mapped : {A B : Type 0} (o : Option A) (f : A → B) (Q : B → Type 0) → ((x : A) → Q (f x)) → IfSome (option_map f o) Q
mapped None f Q g = tt
mapped (Some x) f Q g = g x

shallow-lone : (h : UnitHole) (k : TokenKind) (at : Span) → UnitShallow h
    → IfSome (option_map (λ p. with_unit h (Lone p)) (operand_at k at)) Shallow
shallow-lone h k at s = mapped (operand_at k at) (λ p. with_unit h (Lone p)) Shallow
    (λ p. shallow-with_unit h (Lone p) (let b = unit_bounded h s in omega arith) s)

shallow-start_unit : (h : UnitHole) (k : TokenKind) (at : Span) → UnitShallow h → IfSome (start_unit h k at) Shallow
shallow-start_unit h Tilde at s = chosen (unit_nesting h) 64 (Some (WantsUnit (UnderNot at h))) Shallow (λ d. (d, s))
shallow-start_unit h OpenRound at s =
    chosen (unit_nesting h) 64 (Some (WantsUnit (FirstUnit (FirstAnd (FirstXor (InRound at h)))))) Shallow (λ d. (d, s))
shallow-start_unit h k at s = shallow-lone h k at s

shallow-start_item : (f : Head) (k : TokenKind) (at : Span) → HeadShallow f → IfSome (start_item f k at) Shallow
shallow-start_item f (DeclWord k) at s = s
shallow-start_item f (GateWord k) at s = s
shallow-start_item f AssignWord at s = s
shallow-start_item f AlwaysWord at s = s
shallow-start_item f EndmoduleWord at s = s
shallow-start_item f _ at s = tt

shallow-with_port : (h : PortHole) (n : NamePhrase) → Shallow (with_port h n)
shallow-with_port (FirstPort t) n = tt
shallow-with_port (NextPort t ns c) n = tt

shallow-with_name : (h : DeclHole) (n : NamePhrase) → DeclShallow h → Shallow (with_name h n)
shallow-with_name (FirstDecl f k at) n s = s
shallow-with_name (NextDecl f k at ns c) n s = s

shallow-arity : (g : PinFront) (p : OperandPhrase)
    (e : IsTrue (is_single g.gate.kind) ⊎ IsTrue (not (is_single g.gate.kind))) → HeadShallow g.gate.head
    → Shallow (with_arity g p e)
shallow-arity g p (inl single) s = s
shallow-arity g p (inr many) s = s

shallow-instance : (f : Head) (g : GateKind) (a : Span) (k : TokenKind) (at : Span) → HeadShallow f
    → IfSome (option_map (λ n. AfterInstance f g a n) (name_at k at)) Shallow
shallow-instance f g a k at s = mapped (name_at k at) _ Shallow (λ n. s)

shallow_step : (p : Place) (k : TokenKind) (at : Span) → Shallow p → IfSome (step p k at) Shallow
shallow_step Start ModuleWord at s = tt
shallow_step (AfterModule m) k at s = mapped (name_at k at) _ Shallow (λ n. tt)
shallow_step (AfterTitle m n) OpenRound at s = tt
shallow_step (WantsPort h) k at s = mapped (name_at k at) _ Shallow (λ n. shallow-with_port h n)
shallow_step (AfterPort t ns) Comma at s = tt
shallow_step (AfterPort t ns) CloseRound at s = tt
shallow_step (AfterPorts t ns c) Semicolon at s = omega arith
shallow_step (InItems f) k at s = shallow-start_item f k at s
shallow_step (WantsName h) k at s = mapped (name_at k at) _ Shallow (λ n. shallow-with_name h n s)
shallow_step (AfterName f d a ns) Comma at s = s
shallow_step (AfterName f d a ns) Semicolon at s = most_of (items_depth f.items) 0 s (omega arith)
shallow_step (AfterGateWord f g a) OpenRound at s = s
shallow_step (AfterGateWord f g a) k at s = shallow-instance f g a k at s
shallow_step (AfterInstance f g a n) OpenRound at s = s
shallow_step (WantsTarget g) k at s = mapped (name_at k at) _ Shallow (λ n. s)
shallow_step (AfterTarget g t) Comma at s = s
shallow_step (WantsPin g) k at s =
    mapped (operand_at k at) _ Shallow (λ p. shallow-arity g p (single_or_many g.gate.kind) s)
shallow_step (WantsNextPin g many ps c) k at s = mapped (operand_at k at) _ Shallow (λ p. s)
shallow_step (AfterPins g many ps) Comma at s = s
shallow_step (AfterPins g many ps) CloseRound at s = s
shallow_step (AfterPin g single p) CloseRound at s = s
shallow_step (AfterManyGate g many ps c) Semicolon at s =
    most_of (items_depth g.gate.head.items) 0 s (omega arith)
shallow_step (AfterSingleGate g single p c) Semicolon at s =
    most_of (items_depth g.gate.head.items) 0 s (omega arith)
shallow_step (AfterAssign f a) k at s = mapped (name_at k at) _ Shallow (λ n. s)
shallow_step (AfterAssigned f a t) Equals at s = s
shallow_step (WantsUnit h) k at s = shallow-start_unit h k at s
shallow_step (AfterUnit a h) k at s = shallow-end_unit a h k at s
shallow_step (AfterAlways f a) At at s = s
shallow_step (AfterAt f a b) OpenRound at s = s
shallow_step (AfterClockOpen f a b c) PosedgeWord at s = s
shallow_step (AfterPosedge f a b c d) Clock at s = s
shallow_step (AfterClock f a b c d e) CloseRound at s = s
shallow_step (AfterEdge e) k at s = mapped (name_at k at) _ Shallow (λ n. s)
shallow_step (AfterRegister e t) Arrow at s = s
shallow_step (AfterArrow e t r) k at s = mapped (operand_at k at) _ Shallow (λ p. s)
shallow_step (AfterTaken e t r p) Semicolon at s = most_of (items_depth e.head.items) 0 s (omega arith)
shallow_step _ _ _ s = tt

pub shallow_walk : (ts : List Token) (p q : Place) → Shallow p → walk p ts ≡ Some q → Shallow q
shallow_walk [] p q s e = let same : p ≡ q = cc in subst Shallow same s
shallow_walk (t ∷ ts) p q s e =
    let x = at_some (step p t.kind t.span) (λ r. walk r ts) Shallow q (shallow_step p t.kind t.span s) e in
    shallow_walk ts x.0 q x.3 x.2
