-- The places of a text between two tokens, each with what stands before it.
use Rattle.std.specs.Prelude.{ℕ, zero, suc, IsTrue, not, List, [], ◌∷◌, ◌++◌}
use Rattle.pbs_base.specs.declared.refusal.Span.{Span}
use Rattle.net_core.specs.declared.gate.GateKind.{GateKind}
use Rattle.vlog_text.specs.declared.raw.DeclKind.{DeclKind}
use Rattle.vlog_text.specs.declared.token.Token.{Token}
use Rattle.vlog_text.specs.declared.token.TokenKind.TheVariants.{Clock, DeclWord, GateWord, ModuleWord, AssignWord}
use Rattle.vlog_text.specs.declared.token.TokenKind.TheVariants.{AlwaysWord, PosedgeWord, OpenRound, CloseRound, Comma}
use Rattle.vlog_text.specs.declared.token.TokenKind.TheVariants.{Semicolon, Equals, Tilde, Ampersand, Caret, Bar, At}
use Rattle.vlog_text.specs.declared.token.TokenKind.TheVariants.{Arrow}
use Rattle.vlog_text.specs.Grammar.{token, NamePhrase, name_token, OperandPhrase, operand_token, AndPhrase, XorPhrase}
use Rattle.vlog_text.specs.Grammar.{OrPhrase, and_tokens, xor_tokens, or_tokens, NamesPhrase, OperandsPhrase}
use Rattle.vlog_text.specs.Grammar.{InstancePhrase, is_single, ItemsPhrase, TextPhrase, names_tokens, operands_tokens}
use Rattle.vlog_text.specs.Grammar.{instance_tokens, items_tokens, text_tokens}

-- the words up to and with the `(` of the ports
pub record Title : Type 0 where
  pub module_at : Span
  pub name : NamePhrase
  pub open_at : Span

-- what stands before an item
pub record Head : Type 0 where
  pub title : Title
  pub ports : NamesPhrase
  pub close_at : Span
  pub start_at : Span
  pub items : ItemsPhrase

-- where a phrase of what is assigned is wanted
mutual
  pub data OrHole : Type 0 where
    OfAssign : (f : Head) (at : Span) (target : NamePhrase) (equals_at : Span) → OrHole
    InRound : (at : Span) (h : UnitHole) → OrHole

  pub data XorHole : Type 0 where
    FirstXor : (h : OrHole) → XorHole
    NextXor : (o : OrPhrase) (at : Span) (h : OrHole) → XorHole

  pub data AndHole : Type 0 where
    FirstAnd : (h : XorHole) → AndHole
    NextAnd : (x : XorPhrase) (at : Span) (h : XorHole) → AndHole

  pub data UnitHole : Type 0 where
    FirstUnit : (h : AndHole) → UnitHole
    NextUnit : (a : AndPhrase) (at : Span) (h : AndHole) → UnitHole
    UnderNot : (at : Span) (h : UnitHole) → UnitHole

-- where a port, and where a declared name, is wanted
pub data PortHole : Type 0 where
  FirstPort : (t : Title) → PortHole
  NextPort : (t : Title) (ns : NamesPhrase) (comma_at : Span) → PortHole

pub data DeclHole : Type 0 where
  FirstDecl : (f : Head) (k : DeclKind) (at : Span) → DeclHole
  NextDecl : (f : Head) (k : DeclKind) (at : Span) (ns : NamesPhrase) (comma_at : Span) → DeclHole

-- a gate up to its `(`
pub record GateFront : Type 0 where
  pub head : Head
  pub kind : GateKind
  pub at : Span
  pub name : InstancePhrase
  pub open_at : Span

-- a gate up to the `,` behind its target
pub record PinFront : Type 0 where
  pub gate : GateFront
  pub target : NamePhrase
  pub comma_at : Span

-- an `always` up to the `)`
pub record Edge : Type 0 where
  pub head : Head
  pub at : Span
  pub at_at : Span
  pub open_at : Span
  pub posedge_at : Span
  pub clock_at : Span
  pub close_at : Span

-- ---- a place between two tokens

pub data Place : Type 0 where
  Start : Place
  AfterModule : (m : Span) → Place
  AfterTitle : (m : Span) (n : NamePhrase) → Place
  WantsPort : (h : PortHole) → Place
  AfterPort : (t : Title) (ns : NamesPhrase) → Place
  AfterPorts : (t : Title) (ns : NamesPhrase) (c : Span) → Place
  InItems : (f : Head) → Place
  WantsName : (h : DeclHole) → Place
  AfterName : (f : Head) (k : DeclKind) (at : Span) (ns : NamesPhrase) → Place
  AfterGateWord : (f : Head) (k : GateKind) (at : Span) → Place
  AfterInstance : (f : Head) (k : GateKind) (at : Span) (n : NamePhrase) → Place
  WantsTarget : (g : GateFront) → Place
  AfterTarget : (g : GateFront) (t : NamePhrase) → Place
  WantsPin : (g : PinFront) → Place
  WantsNextPin : (g : PinFront) (many : IsTrue (not (is_single g.gate.kind))) (ps : OperandsPhrase) (c : Span) → Place
  AfterPins : (g : PinFront) (many : IsTrue (not (is_single g.gate.kind))) (ps : OperandsPhrase) → Place
  AfterPin : (g : PinFront) (single : IsTrue (is_single g.gate.kind)) (p : OperandPhrase) → Place
  AfterManyGate : (g : PinFront) (many : IsTrue (not (is_single g.gate.kind))) (ps : OperandsPhrase) (c : Span) → Place
  AfterSingleGate : (g : PinFront) (single : IsTrue (is_single g.gate.kind)) (p : OperandPhrase) (c : Span) → Place
  AfterAssign : (f : Head) (at : Span) → Place
  AfterAssigned : (f : Head) (at : Span) (t : NamePhrase) → Place
  WantsUnit : (h : UnitHole) → Place
  AfterUnit : (a : AndPhrase) (h : AndHole) → Place
  AfterAlways : (f : Head) (a : Span) → Place
  AfterAt : (f : Head) (a b : Span) → Place
  AfterClockOpen : (f : Head) (a b c : Span) → Place
  AfterPosedge : (f : Head) (a b c d : Span) → Place
  AfterClock : (f : Head) (a b c d e : Span) → Place
  AfterEdge : (e : Edge) → Place
  AfterRegister : (e : Edge) (t : NamePhrase) → Place
  AfterArrow : (e : Edge) (t : NamePhrase) (r : Span) → Place
  AfterTaken : (e : Edge) (t : NamePhrase) (r : Span) (p : OperandPhrase) → Place
  Whole : (p : TextPhrase) → Place

-- ---- the tokens before a place

abbrev pub title_tokens : Title → List Token
title_tokens t = token ModuleWord t.module_at ∷ name_token t.name ∷ token OpenRound t.open_at ∷ []

abbrev pub head_tokens : Head → List Token
head_tokens f =
    title_tokens f.title ++ (names_tokens f.ports ++ token CloseRound f.close_at ∷ token Semicolon f.start_at ∷
    items_tokens f.items)

abbrev mutual
  pub before_or : OrHole → List Token
  before_or (OfAssign f at t q) = head_tokens f ++ token AssignWord at ∷ name_token t ∷ token Equals q ∷ []
  before_or (InRound at h) = before_unit h ++ token OpenRound at ∷ []

  pub before_xor : XorHole → List Token
  before_xor (FirstXor h) = before_or h
  before_xor (NextXor o at h) = before_or h ++ (or_tokens o ++ token Bar at ∷ [])

  pub before_and : AndHole → List Token
  before_and (FirstAnd h) = before_xor h
  before_and (NextAnd x at h) = before_xor h ++ (xor_tokens x ++ token Caret at ∷ [])

  pub before_unit : UnitHole → List Token
  before_unit (FirstUnit h) = before_and h
  before_unit (NextUnit a at h) = before_and h ++ (and_tokens a ++ token Ampersand at ∷ [])
  before_unit (UnderNot at h) = before_unit h ++ token Tilde at ∷ []

-- how many `(` and `~` are open
abbrev mutual
  pub or_nesting : OrHole → ℕ
  or_nesting (OfAssign f at t q) = zero
  or_nesting (InRound at h) = suc (unit_nesting h)

  pub xor_nesting : XorHole → ℕ
  xor_nesting (FirstXor h) = or_nesting h
  xor_nesting (NextXor o at h) = or_nesting h

  pub and_nesting : AndHole → ℕ
  and_nesting (FirstAnd h) = xor_nesting h
  and_nesting (NextAnd x at h) = xor_nesting h

  pub unit_nesting : UnitHole → ℕ
  unit_nesting (FirstUnit h) = and_nesting h
  unit_nesting (NextUnit a at h) = and_nesting h
  unit_nesting (UnderNot at h) = suc (unit_nesting h)

abbrev pub before_port : PortHole → List Token
before_port (FirstPort t) = title_tokens t
before_port (NextPort t ns c) = title_tokens t ++ (names_tokens ns ++ token Comma c ∷ [])

abbrev pub before_decl : DeclHole → List Token
before_decl (FirstDecl f k at) = head_tokens f ++ token (DeclWord k) at ∷ []
before_decl (NextDecl f k at ns c) = head_tokens f ++ token (DeclWord k) at ∷ (names_tokens ns ++ token Comma c ∷ [])

abbrev pub gate_front_tokens : GateFront → List Token
gate_front_tokens g =
    head_tokens g.head ++ token (GateWord g.kind) g.at ∷ (instance_tokens g.name ++ token OpenRound g.open_at ∷ [])

abbrev pub pin_front_tokens : PinFront → List Token
pin_front_tokens g = gate_front_tokens g.gate ++ name_token g.target ∷ token Comma g.comma_at ∷ []

abbrev pub edge_tokens : Edge → List Token
edge_tokens e =
    head_tokens e.head ++ token AlwaysWord e.at ∷ token At e.at_at ∷ token OpenRound e.open_at ∷ token PosedgeWord
    e.posedge_at ∷ token Clock e.clock_at ∷ token CloseRound e.close_at ∷ []

abbrev pub before : Place → List Token
before Start = []
before (AfterModule m) = token ModuleWord m ∷ []
before (AfterTitle m n) = token ModuleWord m ∷ name_token n ∷ []
before (WantsPort h) = before_port h
before (AfterPort t ns) = title_tokens t ++ names_tokens ns
before (AfterPorts t ns c) = title_tokens t ++ (names_tokens ns ++ token CloseRound c ∷ [])
before (InItems f) = head_tokens f
before (WantsName h) = before_decl h
before (AfterName f k at ns) = head_tokens f ++ token (DeclWord k) at ∷ names_tokens ns
before (AfterGateWord f k at) = head_tokens f ++ token (GateWord k) at ∷ []
before (AfterInstance f k at n) = head_tokens f ++ token (GateWord k) at ∷ name_token n ∷ []
before (WantsTarget g) = gate_front_tokens g
before (AfterTarget g t) = gate_front_tokens g ++ name_token t ∷ []
before (WantsPin g) = pin_front_tokens g
before (WantsNextPin g many ps c) = pin_front_tokens g ++ (operands_tokens ps ++ token Comma c ∷ [])
before (AfterPins g many ps) = pin_front_tokens g ++ operands_tokens ps
before (AfterPin g single p) = pin_front_tokens g ++ operand_token p ∷ []
before (AfterManyGate g many ps c) = pin_front_tokens g ++ (operands_tokens ps ++ token CloseRound c ∷ [])
before (AfterSingleGate g single p c) = pin_front_tokens g ++ operand_token p ∷ token CloseRound c ∷ []
before (AfterAssign f at) = head_tokens f ++ token AssignWord at ∷ []
before (AfterAssigned f at t) = head_tokens f ++ token AssignWord at ∷ name_token t ∷ []
before (WantsUnit h) = before_unit h
before (AfterUnit a h) = before_and h ++ and_tokens a
before (AfterAlways f a) = head_tokens f ++ token AlwaysWord a ∷ []
before (AfterAt f a b) = head_tokens f ++ token AlwaysWord a ∷ token At b ∷ []
before (AfterClockOpen f a b c) = head_tokens f ++ token AlwaysWord a ∷ token At b ∷ token OpenRound c ∷ []
before (AfterPosedge f a b c d) =
    head_tokens f ++ token AlwaysWord a ∷ token At b ∷ token OpenRound c ∷ token PosedgeWord d ∷ []
before (AfterClock f a b c d e) =
    head_tokens f ++ token AlwaysWord a ∷ token At b ∷ token OpenRound c ∷ token PosedgeWord d ∷ token Clock e ∷ []
before (AfterEdge e) = edge_tokens e
before (AfterRegister e t) = edge_tokens e ++ name_token t ∷ []
before (AfterArrow e t r) = edge_tokens e ++ name_token t ∷ token Arrow r ∷ []
before (AfterTaken e t r p) = edge_tokens e ++ name_token t ∷ token Arrow r ∷ operand_token p ∷ []
before (Whole p) = text_tokens p
