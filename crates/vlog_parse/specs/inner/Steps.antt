-- The step over one token.
use Rattle.std.specs.Prelude.{Bool, true, false, not, IsTrue, nat_lt, ◌⊎◌, List, [], ◌∷◌, Option, Some, None}
use Rattle.std.proofs.Common.{inl, inr}
use Rattle.std.specs.Prelude.{option_map, option_and_then, if◌then◌else◌, refl}
use Rattle.pbs_base.specs.declared.refusal.Span.{Span}
use Rattle.net_core.specs.declared.gate.GateKind.{GateKind}
use Rattle.net_core.specs.declared.gate.GateKind.TheVariants as gate
use Rattle.vlog_text.specs.declared.token.Token.{Token}
use Rattle.vlog_text.specs.declared.token.TokenKind.{TokenKind}
use Rattle.vlog_text.specs.declared.token.TokenKind.TheVariants.{Name, Clock, Bit, DeclWord, GateWord, ModuleWord}
use Rattle.vlog_text.specs.declared.token.TokenKind.TheVariants.{EndmoduleWord, AssignWord, AlwaysWord, PosedgeWord}
use Rattle.vlog_text.specs.declared.token.TokenKind.TheVariants.{OpenRound, CloseRound, Comma, Semicolon, Equals, Tilde}
use Rattle.vlog_text.specs.declared.token.TokenKind.TheVariants.{Ampersand, Caret, Bar, At, Arrow}
use Rattle.vlog_text.specs.Grammar.{NamePhrase, OperandPhrase, Named, Constant, UnitPhrase, Negated, Bracketed, Lone}
use Rattle.vlog_text.specs.Grammar.{AndPhrase, OneUnit, MoreUnits, XorPhrase, OneAnd, MoreAnds, OrPhrase, OneXor}
use Rattle.vlog_text.specs.Grammar.{MoreXors, NamesPhrase, OneName, MoreNames, OperandsPhrase, OneOperand, MoreOperands}
use Rattle.vlog_text.specs.Grammar.{InstancePhrase, Unnamed, Instance, is_single, ItemPhrase, Declare, ManyGate}
use Rattle.vlog_text.specs.Grammar.{SingleGate, Assign, Always, NoItems, MoreItems, TextPhrase}
use Rattle.vlog_parse.specs.inner.Places.{Title, Head, OrHole, OfAssign, InRound, XorHole, FirstXor, NextXor, AndHole}
use Rattle.vlog_parse.specs.inner.Places.{FirstAnd, NextAnd, UnitHole, FirstUnit, NextUnit, UnderNot, PortHole}
use Rattle.vlog_parse.specs.inner.Places.{FirstPort}
use Rattle.vlog_parse.specs.inner.Places.{NextPort, DeclHole, FirstDecl, NextDecl, GateFront, PinFront, Edge, Place}
use Rattle.vlog_parse.specs.inner.Places.{Start}
use Rattle.vlog_parse.specs.inner.Places.{AfterModule, AfterTitle, WantsPort, AfterPort, AfterPorts, InItems, WantsName}
use Rattle.vlog_parse.specs.inner.Places.{AfterName, AfterGateWord, AfterInstance, WantsTarget, AfterTarget, WantsPin}
use Rattle.vlog_parse.specs.inner.Places.{WantsNextPin, AfterPins, AfterPin, AfterManyGate, AfterSingleGate}
use Rattle.vlog_parse.specs.inner.Places.{AfterAssign}
use Rattle.vlog_parse.specs.inner.Places.{AfterAssigned, WantsUnit, AfterUnit, AfterAlways, AfterAt, AfterClockOpen}
use Rattle.vlog_parse.specs.inner.Places.{AfterPosedge, AfterClock, AfterEdge, AfterRegister, AfterArrow, AfterTaken}
use Rattle.vlog_parse.specs.inner.Places.{Whole}
use Rattle.vlog_parse.specs.inner.Places.{unit_nesting}

-- ---- kinds of tokens that belong together

abbrev pub name_phrase : Bool → Span → NamePhrase
name_phrase clock at = record { clock = clock; at = at }

abbrev pub name_at : TokenKind → Span → Option NamePhrase
name_at Name at = Some (name_phrase false at)
name_at Clock at = Some (name_phrase true at)
name_at _ at = None

abbrev pub operand_at : TokenKind → Span → Option OperandPhrase
operand_at Name at = Some (Named (name_phrase false at))
operand_at Clock at = Some (Named (name_phrase true at))
operand_at (Bit b) at = Some (Constant b at)
operand_at _ at = None

-- a gate is of one pin or of many
abbrev pub single_or_many : (k : GateKind) → IsTrue (is_single k) ⊎ IsTrue (not (is_single k))
single_or_many gate.Buf = inl refl
single_or_many gate.Not = inl refl
single_or_many gate.And = inr refl
single_or_many gate.Or = inr refl
single_or_many gate.Nand = inr refl
single_or_many gate.Nor = inr refl
single_or_many gate.Xor = inr refl
single_or_many gate.Xnor = inr refl

-- ---- the place behind a phrase that stands in a hole

abbrev pub with_port : PortHole → NamePhrase → Place
with_port (FirstPort t) n = AfterPort t (OneName n)
with_port (NextPort t ns c) n = AfterPort t (MoreNames ns c n)

abbrev pub with_name : DeclHole → NamePhrase → Place
with_name (FirstDecl f k at) n = AfterName f k at (OneName n)
with_name (NextDecl f k at ns c) n = AfterName f k at (MoreNames ns c n)

abbrev pub with_item : Head → ItemPhrase → Head
with_item f i = record f { items = MoreItems f.items i }

abbrev pub unit_hole : UnitHole → AndHole
unit_hole (FirstUnit h) = h
unit_hole (NextUnit a at h) = h
unit_hole (UnderNot at h) = unit_hole h

-- what the phrases around come to, up to the end of one that stands in a hole
abbrev pub unit_and : UnitHole → UnitPhrase → AndPhrase
unit_and (FirstUnit h) u = OneUnit u
unit_and (NextUnit a at h) u = MoreUnits a at u
unit_and (UnderNot at h) u = unit_and h (Negated at u)

abbrev pub with_unit : UnitHole → UnitPhrase → Place
with_unit h u = AfterUnit (unit_and h u) (unit_hole h)

abbrev pub and_hole : AndHole → XorHole
and_hole (FirstAnd h) = h
and_hole (NextAnd x at h) = h

abbrev pub with_and : AndHole → AndPhrase → XorPhrase
with_and (FirstAnd h) a = OneAnd a
with_and (NextAnd x at h) a = MoreAnds x at a

abbrev pub xor_hole : XorHole → OrHole
xor_hole (FirstXor h) = h
xor_hole (NextXor o at h) = h

abbrev pub with_xor : XorHole → XorPhrase → OrPhrase
with_xor (FirstXor h) x = OneXor x
with_xor (NextXor o at h) x = MoreXors o at x

-- ---- the step over a token, where it may stand

abbrev pub titled : Span → NamePhrase → Span → Title
titled m n o = record { module_at = m; name = n; open_at = o }

abbrev pub first_head : Title → NamesPhrase → Span → Span → Head
first_head t ns c s = record { title = t; ports = ns; close_at = c; start_at = s; items = NoItems }

abbrev pub whole : Head → Span → TextPhrase
whole f end = record {
  module_at = f.title.module_at;
  name = f.title.name;
  open_at = f.title.open_at;
  ports = f.ports;
  close_at = f.close_at;
  start_at = f.start_at;
  items = f.items;
  end_at = end;
}

abbrev pub gate_front : Head → GateKind → Span → InstancePhrase → Span → GateFront
gate_front f k at i o = record { head = f; kind = k; at = at; name = i; open_at = o }

abbrev pub pin_front : GateFront → NamePhrase → Span → PinFront
pin_front g t c = record { gate = g; target = t; comma_at = c }

abbrev pub edge : Head → Span → Span → Span → Span → Span → Span → Edge
edge f a b c d e g = record {
  head = f;
  at = a;
  at_at = b;
  open_at = c;
  posedge_at = d;
  clock_at = e;
  close_at = g;
}

-- the first token of an item, or the last of the text
abbrev pub start_item : Head → TokenKind → Span → Option Place
start_item f (DeclWord k) at = Some (WantsName (FirstDecl f k at))
start_item f (GateWord k) at = Some (AfterGateWord f k at)
start_item f AssignWord at = Some (AfterAssign f at)
start_item f AlwaysWord at = Some (AfterAlways f at)
start_item f EndmoduleWord at = Some (Whole (whole f at))
start_item f _ at = None

abbrev pub with_arity : (g : PinFront) → OperandPhrase
    → IsTrue (is_single g.gate.kind) ⊎ IsTrue (not (is_single g.gate.kind)) → Place
with_arity g p (inl single) = AfterPin g single p
with_arity g p (inr many) = AfterPins g many (OneOperand p)

-- the place behind the first pin of a gate
abbrev pub with_pin : PinFront → OperandPhrase → Place
with_pin g p = with_arity g p (single_or_many g.gate.kind)

abbrev pub many_gate : (g : PinFront) → IsTrue (not (is_single g.gate.kind)) → OperandsPhrase → Span → Span → ItemPhrase
many_gate g many ps c end =
    ManyGate g.gate.kind many g.gate.at g.gate.name g.gate.open_at g.target g.comma_at ps c end

abbrev pub single_gate : (g : PinFront) → IsTrue (is_single g.gate.kind) → OperandPhrase → Span → Span → ItemPhrase
single_gate g single p c end =
    SingleGate g.gate.kind single g.gate.at g.gate.name g.gate.open_at g.target g.comma_at p c end

abbrev pub always : Edge → NamePhrase → Span → OperandPhrase → Span → ItemPhrase
always e t r p end = Always e.at e.at_at e.open_at e.posedge_at e.clock_at e.close_at t r p end

-- a place behind a `(` or `~`, of which at most 64 may be open
abbrev pub deeper : UnitHole → UnitHole → Option Place
deeper h inner = if nat_lt (unit_nesting h) 64 then Some (WantsUnit inner) else None

abbrev pub start_unit : UnitHole → TokenKind → Span → Option Place
start_unit h Tilde at = deeper h (UnderNot at h)
start_unit h OpenRound at = deeper h (FirstUnit (FirstAnd (FirstXor (InRound at h))))
start_unit h k at = option_map (λ p. with_unit h (Lone p)) (operand_at k at)

abbrev pub close_round : OrHole → OrPhrase → Span → Option Place
close_round (OfAssign f a t q) o at = None
close_round (InRound b h) o at = Some (with_unit h (Bracketed b o at))

abbrev pub end_assign : OrHole → OrPhrase → Span → Option Place
end_assign (OfAssign f a t q) o at = Some (InItems (with_item f (Assign a t q o at)))
end_assign (InRound b h) o at = None

-- the token behind a unit
abbrev pub end_unit : AndPhrase → AndHole → TokenKind → Span → Option Place
end_unit a h Ampersand at = Some (WantsUnit (NextUnit a at h))
end_unit a h Caret at = Some (WantsUnit (FirstUnit (NextAnd (with_and h a) at (and_hole h))))
end_unit a h Bar at =
    Some (WantsUnit (FirstUnit (FirstAnd (NextXor (with_xor (and_hole h) (with_and h a)) at (xor_hole (and_hole h))))))
end_unit a h CloseRound at = close_round (xor_hole (and_hole h)) (with_xor (and_hole h) (with_and h a)) at
end_unit a h Semicolon at = end_assign (xor_hole (and_hole h)) (with_xor (and_hole h) (with_and h a)) at
end_unit a h _ at = None

-- the place behind a token, where the token may stand
abbrev pub step : Place → TokenKind → Span → Option Place
step Start ModuleWord at = Some (AfterModule at)
step (AfterModule m) k at = option_map (λ n. AfterTitle m n) (name_at k at)
step (AfterTitle m n) OpenRound at = Some (WantsPort (FirstPort (titled m n at)))
step (WantsPort h) k at = option_map (λ n. with_port h n) (name_at k at)
step (AfterPort t ns) Comma at = Some (WantsPort (NextPort t ns at))
step (AfterPort t ns) CloseRound at = Some (AfterPorts t ns at)
step (AfterPorts t ns c) Semicolon at = Some (InItems (first_head t ns c at))
step (InItems f) k at = start_item f k at
step (WantsName h) k at = option_map (λ n. with_name h n) (name_at k at)
step (AfterName f d a ns) Comma at = Some (WantsName (NextDecl f d a ns at))
step (AfterName f d a ns) Semicolon at = Some (InItems (with_item f (Declare d a ns at)))
step (AfterGateWord f g a) OpenRound at = Some (WantsTarget (gate_front f g a Unnamed at))
step (AfterGateWord f g a) k at = option_map (λ n. AfterInstance f g a n) (name_at k at)
step (AfterInstance f g a n) OpenRound at = Some (WantsTarget (gate_front f g a (Instance n) at))
step (WantsTarget g) k at = option_map (λ n. AfterTarget g n) (name_at k at)
step (AfterTarget g t) Comma at = Some (WantsPin (pin_front g t at))
step (WantsPin g) k at = option_map (λ p. with_pin g p) (operand_at k at)
step (WantsNextPin g many ps c) k at = option_map (λ p. AfterPins g many (MoreOperands ps c p)) (operand_at k at)
step (AfterPins g many ps) Comma at = Some (WantsNextPin g many ps at)
step (AfterPins g many ps) CloseRound at = Some (AfterManyGate g many ps at)
step (AfterPin g single p) CloseRound at = Some (AfterSingleGate g single p at)
step (AfterManyGate g many ps c) Semicolon at = Some (InItems (with_item g.gate.head (many_gate g many ps c at)))
step (AfterSingleGate g single p c) Semicolon at =
    Some (InItems (with_item g.gate.head (single_gate g single p c at)))
step (AfterAssign f a) k at = option_map (λ n. AfterAssigned f a n) (name_at k at)
step (AfterAssigned f a t) Equals at = Some (WantsUnit (FirstUnit (FirstAnd (FirstXor (OfAssign f a t at)))))
step (WantsUnit h) k at = start_unit h k at
step (AfterUnit a h) k at = end_unit a h k at
step (AfterAlways f a) At at = Some (AfterAt f a at)
step (AfterAt f a b) OpenRound at = Some (AfterClockOpen f a b at)
step (AfterClockOpen f a b c) PosedgeWord at = Some (AfterPosedge f a b c at)
step (AfterPosedge f a b c d) Clock at = Some (AfterClock f a b c d at)
step (AfterClock f a b c d e) CloseRound at = Some (AfterEdge (edge f a b c d e at))
step (AfterEdge e) k at = option_map (λ n. AfterRegister e n) (name_at k at)
step (AfterRegister e t) Arrow at = Some (AfterArrow e t at)
step (AfterArrow e t r) k at = option_map (λ p. AfterTaken e t r p) (operand_at k at)
step (AfterTaken e t r p) Semicolon at = Some (InItems (with_item e.head (always e t r p at)))
step _ _ _ = None

-- the place behind some tokens
abbrev pub walk : Place → List Token → Option Place
walk p [] = Some p
walk p (t ∷ ts) = option_and_then (λ q. walk q ts) (step p t.kind t.span)
