-- What the machine has found at each place.
use Rattle.std.proofs.Common.{◌≡◌, ℕ, ◌+◌, List, [], ◌∷◌, ◌++◌, length, Option, Some, None}
use Rattle.std.specs.Prelude.{IsTrue, not}
use Rattle.pbs_base.specs.declared.refusal.Span.{Span}
use Rattle.net_core.specs.declared.gate.GateKind.{GateKind}
use Rattle.vlog_text.specs.declared.raw.DeclKind.{DeclKind}
use Rattle.vlog_text.specs.declared.raw.RawGate.{RawGate}
use Rattle.vlog_text.specs.declared.raw.RawPin.{RawPin}
use Rattle.vlog_text.specs.Grammar.{NamePhrase, OperandPhrase, AndPhrase, NamesPhrase, OperandsPhrase, is_single}
use Rattle.vlog_text.specs.Grammar.{TextPhrase}
use Rattle.vlog_text.specs.Trees.{name_of, operand_of, names_of, operands_of, Parts, parts, and_parts, xor_parts}
use Rattle.vlog_text.specs.Trees.{or_parts}
use Rattle.vlog_text.specs.Trees.{found_in, declare}
use Rattle.vlog_parse.specs.declared.state.Found.{Found}
use Rattle.vlog_parse.specs.declared.state.Level.{Level}
use Rattle.vlog_parse.specs.declared.state.Frame.{Frame}
use Rattle.vlog_parse.specs.declared.state.Frame.TheVariants.{Negation, Bracket}
use Rattle.vlog_parse.specs.declared.state.Part.{Part}
use Rattle.vlog_parse.specs.declared.state.Part.TheVariants.{Pin, Made}
use Rattle.vlog_parse.specs.declared.state.Assigned.{Assigned}
use Rattle.vlog_parse.specs.declared.state.Fixed.TheVariants as fixed
use Rattle.vlog_parse.specs.declared.state.GateState.TheVariants as of_gate
use Rattle.vlog_parse.specs.declared.state.AssignState.TheVariants as of_assign
use Rattle.vlog_parse.specs.declared.state.RegState.TheVariants as of_reg
use Rattle.vlog_parse.specs.declared.state.State.{State}
use Rattle.vlog_parse.specs.declared.state.State.TheVariants as state
use Rattle.vlog_parse.specs.inner.Places.{Title, Head, OrHole, OfAssign, InRound, XorHole, FirstXor, NextXor, AndHole}
use Rattle.vlog_parse.specs.inner.Places.{FirstAnd, NextAnd, UnitHole, FirstUnit, NextUnit, UnderNot, PortHole}
use Rattle.vlog_parse.specs.inner.Places.{FirstPort}
use Rattle.vlog_parse.specs.inner.Places.{NextPort, DeclHole, FirstDecl, NextDecl, GateFront, PinFront, Edge, Place}
use Rattle.vlog_parse.specs.inner.Places.{Start}
use Rattle.vlog_parse.specs.inner.Places.{AfterModule, AfterTitle, WantsPort, AfterPort, AfterPorts, InItems, WantsName}
use Rattle.vlog_parse.specs.inner.Places.{AfterName, AfterGateWord, AfterInstance, WantsTarget, AfterTarget, WantsPin}
use Rattle.vlog_parse.specs.inner.Places.{WantsNextPin, AfterPins, AfterPin, AfterManyGate, AfterSingleGate}
use Rattle.vlog_parse.specs.inner.Places.{AfterAssign}
use Rattle.vlog_parse.specs.inner.Places.{AfterAssigned, WantsUnit, AfterUnit, AfterAlways, AfterAt, AfterClockOpen}
use Rattle.vlog_parse.specs.inner.Places.{AfterPosedge, AfterClock, AfterEdge, AfterRegister, AfterArrow, AfterTaken}
use Rattle.vlog_parse.specs.inner.Places.{Whole}
use Rattle.vlog_parse.specs.inner.Steps.{unit_hole, and_hole, xor_hole}
use Rattle.vlog_parse.specs.inner.Machine.{settled_pin, settled_gates, with_gates, with_gate, Next}
use Rattle.vlog_parse.specs.inner.Machine.{nothing}

-- ---- what was found

abbrev pub titled_found : List ℕ → NamePhrase → Found
titled_found bytes n = record { title = Some (name_of bytes n); ports = []; decls = []; gates = []; regs = [] }

abbrev pub ports_found : List ℕ → Title → NamesPhrase → Found
ports_found bytes t ns =
    record { title = Some (name_of bytes t.name); ports = names_of bytes ns; decls = []; gates = []; regs = [] }

abbrev pub port_found : List ℕ → PortHole → Found
port_found bytes (FirstPort t) = titled_found bytes t.name
port_found bytes (NextPort t ns c) = ports_found bytes t ns

abbrev pub found_at : List ℕ → Head → Found
found_at bytes f = let x = found_in bytes f.items in record {
  title = Some (name_of bytes f.title.name);
  ports = names_of bytes f.ports;
  decls = x.decls;
  gates = x.gates;
  regs = x.regs;
}

abbrev pub names_found : List ℕ → Head → DeclKind → NamesPhrase → Found
names_found bytes f k ns =
    let x = found_at bytes f in record x { decls = x.decls ++ declare k (names_of bytes ns) }

abbrev pub decl_found : List ℕ → DeclHole → Found
decl_found bytes (FirstDecl f k at) = found_at bytes f
decl_found bytes (NextDecl f k at ns c) = names_found bytes f k ns

abbrev pub decl_kind : DeclHole → DeclKind
decl_kind (FirstDecl f k at) = k
decl_kind (NextDecl f k at ns c) = k

abbrev pub reg_found : List ℕ → Edge → NamePhrase → OperandPhrase → Found
reg_found bytes e t p = let x = found_at bytes e.head in record x {
  regs = x.regs ++ (record { target = name_of bytes t; wire = operand_of bytes p }) ∷ [];
}

abbrev pub whole_found : List ℕ → TextPhrase → Found
whole_found bytes w = let x = found_in bytes w.items in record {
  title = Some (name_of bytes w.name);
  ports = names_of bytes w.ports;
  decls = x.decls;
  gates = x.gates;
  regs = x.regs;
}

-- ---- what was found inside an assign

-- the assign in which a hole stands
pub record Aim : Type 0 where
  pub head : Head
  pub target : NamePhrase

abbrev mutual
  pub or_aim : OrHole → Aim
  or_aim (OfAssign f at t q) = record { head = f; target = t }
  or_aim (InRound at h) = unit_aim h

  pub xor_aim : XorHole → Aim
  xor_aim (FirstXor h) = or_aim h
  xor_aim (NextXor o at h) = or_aim h

  pub and_aim : AndHole → Aim
  and_aim (FirstAnd h) = xor_aim h
  and_aim (NextAnd x at h) = xor_aim h

  pub unit_aim : UnitHole → Aim
  unit_aim (FirstUnit h) = and_aim h
  unit_aim (NextUnit a at h) = and_aim h
  unit_aim (UnderNot at h) = unit_aim h

-- the gates before a hole
abbrev mutual
  pub or_gates : List ℕ → OrHole → List RawGate
  or_gates bytes (OfAssign f at t q) = (found_in bytes f.items).gates
  or_gates bytes (InRound at h) = unit_gates bytes h

  pub xor_gates : List ℕ → XorHole → List RawGate
  xor_gates bytes (FirstXor h) = or_gates bytes h
  xor_gates bytes (NextXor o at h) = or_gates bytes h ++ (or_parts bytes (length (or_gates bytes h)) o).gates

  pub and_gates : List ℕ → AndHole → List RawGate
  and_gates bytes (FirstAnd h) = xor_gates bytes h
  and_gates bytes (NextAnd x at h) = xor_gates bytes h ++ (xor_parts bytes (length (xor_gates bytes h)) x).gates

  pub unit_gates : List ℕ → UnitHole → List RawGate
  unit_gates bytes (FirstUnit h) = and_gates bytes h
  unit_gates bytes (NextUnit a at h) = and_gates bytes h ++ (and_parts bytes (length (and_gates bytes h)) a).gates
  unit_gates bytes (UnderNot at h) = unit_gates bytes h

-- the parts of one level before a hole
abbrev pub xor_ors : List ℕ → XorHole → List RawPin
xor_ors bytes (FirstXor h) = []
xor_ors bytes (NextXor o at h) = (or_parts bytes (length (or_gates bytes h)) o).pins

abbrev pub and_xors : List ℕ → AndHole → List RawPin
and_xors bytes (FirstAnd h) = []
and_xors bytes (NextAnd x at h) = (xor_parts bytes (length (xor_gates bytes h)) x).pins

abbrev pub unit_ands : List ℕ → UnitHole → List RawPin
unit_ands bytes (FirstUnit h) = []
unit_ands bytes (NextUnit a at h) = (and_parts bytes (length (and_gates bytes h)) a).pins
unit_ands bytes (UnderNot at h) = unit_ands bytes h

abbrev pub and_level : List ℕ → AndHole → List RawPin → Level
and_level bytes h ands = record { ors = xor_ors bytes (and_hole h); xors = and_xors bytes h; ands = ands }

abbrev pub unit_level : List ℕ → UnitHole → Level
unit_level bytes h = and_level bytes (unit_hole h) (unit_ands bytes h)

-- the `(` and `~` that are open
abbrev mutual
  pub or_frames : List ℕ → OrHole → List Frame
  or_frames bytes (OfAssign f at t q) = []
  or_frames bytes (InRound at h) = Bracket (unit_level bytes h) ∷ unit_frames bytes h

  pub xor_frames : List ℕ → XorHole → List Frame
  xor_frames bytes (FirstXor h) = or_frames bytes h
  xor_frames bytes (NextXor o at h) = or_frames bytes h

  pub and_frames : List ℕ → AndHole → List Frame
  and_frames bytes (FirstAnd h) = xor_frames bytes h
  and_frames bytes (NextAnd x at h) = xor_frames bytes h

  pub unit_frames : List ℕ → UnitHole → List Frame
  unit_frames bytes (FirstUnit h) = and_frames bytes h
  unit_frames bytes (NextUnit a at h) = and_frames bytes h
  unit_frames bytes (UnderNot at h) = Negation ∷ unit_frames bytes h

abbrev pub aim_found : List ℕ → Aim → List RawGate → Found
aim_found bytes x gates = with_gates (found_at bytes x.head) gates

abbrev pub aimed : List ℕ → Aim → Level → List Frame → Assigned
aimed bytes x level frames = record { target = name_of bytes x.target; level = level; frames = frames }

-- ---- a part that is held

abbrev pub IsLone : Part → List RawGate → Type 0
IsLone (Pin p) own = own ≡ []
IsLone (Made kind pins) own = Unit {0}

-- the parts that some pins, a held part and gates come to, where n gates stand before
abbrev pub shown : ℕ → List RawPin → Part → List RawGate → Parts
shown n before part own = parts (settled_gates part own) (before ++ settled_pin (n + length own) part ∷ [])

-- these gates and this part, behind these pins, are the parts of a phrase before which the gates `front` stand
pub record IsHeld (front : List RawGate) (all : ℕ → Parts) (before : List RawPin) (part : Part)
    (gates : List RawGate) : Type 0 where
  pub own : List RawGate
  pub gates_are : gates ≡ front ++ own
  pub all_is : all (length front) ≡ shown (length front) before part own
  pub lone : before ≡ [] → IsLone part own

abbrev pub AndHeld : List ℕ → AndHole → AndPhrase → List RawPin → Part → List RawGate → Type 0
AndHeld bytes h a ands part gates = IsHeld (and_gates bytes h) (λ n. and_parts bytes n a) ands part gates

-- ---- the machine at a place

pub data StandsAt (bytes : List ℕ) : Found → State → Place → Type 0 where
  AtStart : StandsAt bytes nothing (state.OfFixed fixed.WantsModule) Start
  AtModule : (m : Span) → StandsAt bytes nothing state.WantsTitle (AfterModule m)
  AtTitle : (m : Span) (n : NamePhrase)
      → StandsAt bytes (titled_found bytes n) (state.OfFixed fixed.AfterTitle) (AfterTitle m n)
  AtPort : (h : PortHole) → StandsAt bytes (port_found bytes h) state.WantsPort (WantsPort h)
  BehindPort : (t : Title) (ns : NamesPhrase) → StandsAt bytes (ports_found bytes t ns) state.AfterPort (AfterPort t ns)
  BehindPorts : (t : Title) (ns : NamesPhrase) (c : Span)
      → StandsAt bytes (ports_found bytes t ns) (state.OfFixed fixed.AfterPorts) (AfterPorts t ns c)
  AtItems : (f : Head) → StandsAt bytes (found_at bytes f) state.InItems (InItems f)
  AtName : (h : DeclHole) → StandsAt bytes (decl_found bytes h) (state.WantsName (decl_kind h)) (WantsName h)
  BehindName : (f : Head) (k : DeclKind) (at : Span) (ns : NamesPhrase)
      → StandsAt bytes (names_found bytes f k ns) (state.AfterName k) (AfterName f k at ns)
  AtGateWord : (f : Head) (k : GateKind) (at : Span)
      → StandsAt bytes (found_at bytes f) (state.OfGate (of_gate.AfterWord k)) (AfterGateWord f k at)
  AtInstance : (f : Head) (k : GateKind) (at : Span) (n : NamePhrase)
      → StandsAt bytes (found_at bytes f) (state.OfGate (of_gate.AfterInstance k)) (AfterInstance f k at n)
  AtTarget : (g : GateFront)
      → StandsAt bytes (found_at bytes g.head) (state.OfGate (of_gate.WantsTarget g.kind)) (WantsTarget g)
  BehindTarget : (g : GateFront) (t : NamePhrase)
      → StandsAt bytes (found_at bytes g.head) (state.OfGate (of_gate.AfterTarget g.kind (name_of bytes t)))
      (AfterTarget g t)
  AtPin : (g : PinFront) → StandsAt bytes (found_at bytes g.gate.head)
      (state.OfGate (of_gate.WantsPin g.gate.kind (name_of bytes g.target))) (WantsPin g)
  AtNextPin : (g : PinFront) (many : IsTrue (not (is_single g.gate.kind))) (ps : OperandsPhrase) (c : Span)
      → StandsAt bytes (found_at bytes g.gate.head)
      (state.OfGate (of_gate.WantsNextPin g.gate.kind (name_of bytes g.target) (operands_of bytes ps)))
      (WantsNextPin g many ps c)
  BehindPins : (g : PinFront) (many : IsTrue (not (is_single g.gate.kind))) (ps : OperandsPhrase)
      → StandsAt bytes (found_at bytes g.gate.head)
      (state.OfGate (of_gate.AfterPins g.gate.kind (name_of bytes g.target) (operands_of bytes ps)))
      (AfterPins g many ps)
  BehindPin : (g : PinFront) (single : IsTrue (is_single g.gate.kind)) (p : OperandPhrase)
      → StandsAt bytes (found_at bytes g.gate.head)
      (state.OfGate (of_gate.AfterPin g.gate.kind (name_of bytes g.target) (operand_of bytes p ∷ [])))
      (AfterPin g single p)
  BehindManyGate : (g : PinFront) (many : IsTrue (not (is_single g.gate.kind))) (ps : OperandsPhrase) (c : Span)
      → StandsAt bytes
      (with_gate (found_at bytes g.gate.head) g.gate.kind (name_of bytes g.target) (operands_of bytes ps))
      (state.OfFixed fixed.WantsEnd) (AfterManyGate g many ps c)
  BehindSingleGate : (g : PinFront) (single : IsTrue (is_single g.gate.kind)) (p : OperandPhrase) (c : Span)
      → StandsAt bytes
      (with_gate (found_at bytes g.gate.head) g.gate.kind (name_of bytes g.target) (operand_of bytes p ∷ []))
      (state.OfFixed fixed.WantsEnd) (AfterSingleGate g single p c)
  AtAssign : (f : Head) (at : Span)
      → StandsAt bytes (found_at bytes f) (state.OfAssign of_assign.AfterAssign) (AfterAssign f at)
  AtAssigned : (f : Head) (at : Span) (t : NamePhrase)
      → StandsAt bytes (found_at bytes f) (state.OfAssign (of_assign.AfterAssigned (name_of bytes t)))
      (AfterAssigned f at t)
  AtUnit : (h : UnitHole) → StandsAt bytes (aim_found bytes (unit_aim h) (unit_gates bytes h))
      (state.OfAssign (of_assign.WantsUnit (aimed bytes (unit_aim h) (unit_level bytes h) (unit_frames bytes h))))
      (WantsUnit h)
  BehindUnit : (a : AndPhrase) (h : AndHole) (ands : List RawPin) (part : Part) (gates : List RawGate)
      → AndHeld bytes h a ands part gates
      → StandsAt bytes (aim_found bytes (or_aim (xor_hole (and_hole h))) gates)
      (state.OfAssign (of_assign.AfterUnit (aimed bytes (or_aim (xor_hole (and_hole h))) (and_level bytes h ands)
      (or_frames bytes (xor_hole (and_hole h)))) part)) (AfterUnit a h)
  AtAlways : (f : Head) (a : Span)
      → StandsAt bytes (found_at bytes f) (state.OfFixed fixed.AfterAlways) (AfterAlways f a)
  AtAt : (f : Head) (a b : Span) → StandsAt bytes (found_at bytes f) (state.OfFixed fixed.AfterAt) (AfterAt f a b)
  AtClockOpen : (f : Head) (a b c : Span)
      → StandsAt bytes (found_at bytes f) (state.OfFixed fixed.AfterClockOpen) (AfterClockOpen f a b c)
  AtPosedge : (f : Head) (a b c d : Span)
      → StandsAt bytes (found_at bytes f) (state.OfFixed fixed.AfterPosedge) (AfterPosedge f a b c d)
  AtClock : (f : Head) (a b c d e : Span)
      → StandsAt bytes (found_at bytes f) (state.OfFixed fixed.AfterClock) (AfterClock f a b c d e)
  AtEdge : (e : Edge) → StandsAt bytes (found_at bytes e.head) (state.OfReg of_reg.AfterEdge) (AfterEdge e)
  AtRegister : (e : Edge) (t : NamePhrase)
      → StandsAt bytes (found_at bytes e.head) (state.OfReg (of_reg.AfterRegister (name_of bytes t)))
      (AfterRegister e t)
  AtArrow : (e : Edge) (t : NamePhrase) (r : Span)
      → StandsAt bytes (found_at bytes e.head) (state.OfReg (of_reg.AfterArrow (name_of bytes t))) (AfterArrow e t r)
  BehindTaken : (e : Edge) (t : NamePhrase) (r : Span) (p : OperandPhrase)
      → StandsAt bytes (reg_found bytes e t p) (state.OfFixed fixed.WantsEnd) (AfterTaken e t r p)
  AtEnd : (w : TextPhrase) → StandsAt bytes (whole_found bytes w) state.Whole (Whole w)

-- the machine's step follows the grammar's
abbrev pub Follows : List ℕ → Option Place → Next → Type 0
Follows bytes None None = Unit {0}
Follows bytes (Some q) (Some x) = StandsAt bytes x.1 x.0 q
Follows bytes None (Some x) = ⊥
Follows bytes (Some q) None = ⊥
