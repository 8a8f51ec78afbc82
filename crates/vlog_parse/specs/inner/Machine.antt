-- The step of the machine that reads tokens, on what it has found.
use Rattle.std.specs.Prelude.{ℕ, Bool, true, false, nat_lt, if◌then◌else◌, List, [], ◌∷◌, ◌++◌, length, Option, Some}
use Rattle.std.specs.Prelude.{None}
use Rattle.std.specs.Prelude.{◌≡◌, option_map}
use Rattle.pbs_base.specs.declared.refusal.Span.{Span}
use Rattle.net_core.specs.declared.gate.GateKind.{GateKind}
use Rattle.net_core.specs.declared.gate.GateKind.TheVariants as gate
use Rattle.vlog_text.specs.declared.raw.DeclKind.{DeclKind}
use Rattle.vlog_text.specs.declared.raw.RawName.{RawName}
use Rattle.vlog_text.specs.declared.raw.RawGate.{RawGate}
use Rattle.vlog_text.specs.declared.raw.RawNetlist.{RawNetlist}
use Rattle.vlog_text.specs.declared.raw.RawPin.{RawPin}
use Rattle.vlog_text.specs.declared.raw.RawPin.TheVariants as pin
use Rattle.vlog_text.specs.declared.raw.Target.TheVariants as target
use Rattle.vlog_text.specs.declared.token.TokenKind.{TokenKind}
use Rattle.vlog_text.specs.declared.token.TokenKind.TheVariants.{Name, Clock, DeclWord, GateWord, ModuleWord}
use Rattle.vlog_text.specs.declared.token.TokenKind.TheVariants.{EndmoduleWord, AssignWord, AlwaysWord, PosedgeWord}
use Rattle.vlog_text.specs.declared.token.TokenKind.TheVariants.{OpenRound, CloseRound, Comma, Semicolon, Equals, Tilde}
use Rattle.vlog_text.specs.declared.token.TokenKind.TheVariants.{Ampersand, Caret, Bar, At, Arrow}
use Rattle.vlog_text.specs.Grammar.{is_single, OperandPhrase}
use Rattle.vlog_text.specs.Trees.{name_of, operand_of, gate_of}
use Rattle.vlog_parse.specs.declared.state.Found.{Found}
use Rattle.vlog_parse.specs.declared.state.Level.{Level}
use Rattle.vlog_parse.specs.declared.state.Frame.{Frame}
use Rattle.vlog_parse.specs.declared.state.Frame.TheVariants.{Negation, Bracket}
use Rattle.vlog_parse.specs.declared.state.Part.{Part}
use Rattle.vlog_parse.specs.declared.state.Part.TheVariants.{Pin, Made}
use Rattle.vlog_parse.specs.declared.state.Assigned.{Assigned}
use Rattle.vlog_parse.specs.declared.state.Fixed.{Fixed}
use Rattle.vlog_parse.specs.declared.state.Fixed.TheVariants as fixed
use Rattle.vlog_parse.specs.declared.state.GateState.{GateState}
use Rattle.vlog_parse.specs.declared.state.GateState.TheVariants as of_gate
use Rattle.vlog_parse.specs.declared.state.AssignState.{AssignState}
use Rattle.vlog_parse.specs.declared.state.AssignState.TheVariants as of_assign
use Rattle.vlog_parse.specs.declared.state.RegState.{RegState}
use Rattle.vlog_parse.specs.declared.state.RegState.TheVariants as of_reg
use Rattle.vlog_parse.specs.declared.state.State.{State}
use Rattle.vlog_parse.specs.declared.state.State.TheVariants as state
use Rattle.vlog_parse.specs.inner.Steps.{name_at, operand_at}

-- ---- what is assigned

-- the pin that reads a part, where n gates stand before it
abbrev pub settled_pin : ℕ → Part → RawPin
settled_pin n (Pin p) = p
settled_pin n (Made kind pins) = pin.Prior n

-- the gates with the part's own
abbrev pub settled_gates : Part → List RawGate → List RawGate
settled_gates (Pin p) gates = gates
settled_gates (Made kind pins) gates = gates ++ gate_of kind target.Inner pins ∷ []

-- a part, and the gates before its own
pub record Held : Type 0 where
  pub part : Part
  pub gates : List RawGate

abbrev pub held : Part → List RawGate → Held
held part gates = record { part = part; gates = gates }

-- a gate over some pins and the part
abbrev pub made : GateKind → List RawPin → Held → Held
made kind pins h =
    held (Made kind (pins ++ settled_pin (length h.gates) h.part ∷ [])) (settled_gates h.part h.gates)

-- the part, with those before it
abbrev pub joined_part : GateKind → List RawPin → Held → Held
joined_part kind [] h = h
joined_part kind (p ∷ pins) h = made kind (p ∷ pins) h

abbrev pub and_held : Level → Held → Held
and_held l h = joined_part gate.And l.ands h

abbrev pub xor_held : Level → Held → Held
xor_held l h = joined_part gate.Xor l.xors (and_held l h)

abbrev pub or_held : Level → Held → Held
or_held l h = joined_part gate.Or l.ors (xor_held l h)

-- the pins with the one that reads the part
abbrev pub with_part : List RawPin → Held → List RawPin
with_part pins h = pins ++ settled_pin (length h.gates) h.part ∷ []

-- each `~` that is open takes the part
abbrev pub unwound : List Frame → Held → Held
unwound (Negation ∷ frames) h = unwound frames (made gate.Not [] h)
unwound (Bracket l ∷ frames) h = h
unwound [] h = h

abbrev pub unwound_frames : List Frame → List Frame
unwound_frames (Negation ∷ frames) = unwound_frames frames
unwound_frames (Bracket l ∷ frames) = Bracket l ∷ frames
unwound_frames [] = []

abbrev pub driven : RawName → Part → RawGate
driven name (Pin p) = gate_of gate.Buf (target.Name name) (p ∷ [])
driven name (Made kind pins) = gate_of kind (target.Name name) pins

abbrev pub no_parts : Level
no_parts = record { ors = []; xors = []; ands = [] }

abbrev pub with_gates : Found → List RawGate → Found
with_gates f gates = record f { gates = gates }

abbrev pub Next : Type 0
Next = Option (State × Found)

abbrev pub assign : AssignState → Found → Next
assign s f = Some (state.OfAssign s, f)

-- behind a unit whose part is held
abbrev pub after_unit : Assigned → List Frame → Held → Found → Next
after_unit x frames h f =
    let u = unwound frames h in
    assign (of_assign.AfterUnit (record x { frames = unwound_frames frames }) u.part) (with_gates f u.gates)

abbrev pub wants_unit : RawName → Level → List Frame → State
wants_unit name level frames =
    state.OfAssign (of_assign.WantsUnit (record { target = name; level = level; frames = frames }))

-- behind a `~` and a `(`, of which at most 64 may be open
abbrev pub tilde_next : Assigned → Option State
tilde_next x =
    if nat_lt (length x.frames) 64 then Some (wants_unit x.target x.level (Negation ∷ x.frames)) else None

abbrev pub round_next : Assigned → Option State
round_next x =
    if nat_lt (length x.frames) 64 then Some (wants_unit x.target no_parts (Bracket x.level ∷ x.frames)) else None

-- the found stays
abbrev pub keeping : Found → Option State → Next
keeping f None = None
keeping f (Some s) = Some (s, f)

abbrev pub lone_pin : List ℕ → Assigned → Found → Option OperandPhrase → Next
lone_pin bytes x f None = None
lone_pin bytes x f (Some p) = after_unit x x.frames (held (Pin (operand_of bytes p)) f.gates) f

abbrev pub lone_next : List ℕ → Assigned → Found → TokenKind → Span → Next
lone_next bytes x f k at = lone_pin bytes x f (operand_at k at)

abbrev pub unit_next : List ℕ → Assigned → Found → TokenKind → Span → Next
unit_next bytes x f Tilde at = keeping f (tilde_next x)
unit_next bytes x f OpenRound at = keeping f (round_next x)
unit_next bytes x f k at = lone_next bytes x f k at

abbrev pub settled_next : Assigned → Held → Level → Found → Next
settled_next x h level f =
    Some (wants_unit x.target level x.frames, with_gates f (settled_gates h.part h.gates))

-- behind a `&`, a `^` and a `|`
abbrev pub and_next : Assigned → Part → Found → Next
and_next x part f =
    let h = held part f.gates in
    settled_next x h (record { ors = x.level.ors; xors = x.level.xors; ands = with_part x.level.ands h }) f

abbrev pub xor_next : Assigned → Part → Found → Next
xor_next x part f =
    let h = and_held x.level (held part f.gates) in
    settled_next x h (record { ors = x.level.ors; xors = with_part x.level.xors h; ands = [] }) f

abbrev pub or_next : Assigned → Part → Found → Next
or_next x part f =
    let h = xor_held x.level (held part f.gates) in
    settled_next x h (record { ors = with_part x.level.ors h; xors = []; ands = [] }) f

abbrev pub closed_in : List Frame → Assigned → Held → Found → Next
closed_in (Bracket l ∷ frames) x h f = after_unit (record x { level = l }) frames h f
closed_in (Negation ∷ frames) x h f = None
closed_in [] x h f = None

abbrev pub close_next : Assigned → Part → Found → Next
close_next x part f = closed_in x.frames x (or_held x.level (held part f.gates)) f

abbrev pub ended_in : List Frame → Assigned → Held → Found → Next
ended_in [] x h f = Some (state.InItems, with_gates f (h.gates ++ driven x.target h.part ∷ []))
ended_in (frame ∷ frames) x h f = None

abbrev pub end_next : Assigned → Part → Found → Next
end_next x part f = ended_in x.frames x (or_held x.level (held part f.gates)) f

-- the token behind a unit
abbrev pub part_next : Assigned → Part → Found → TokenKind → Next
part_next x part f Ampersand = and_next x part f
part_next x part f Caret = xor_next x part f
part_next x part f Bar = or_next x part f
part_next x part f CloseRound = close_next x part f
part_next x part f Semicolon = end_next x part f
part_next x part f _ = None

abbrev pub assign_next : List ℕ → AssignState → Found → TokenKind → Span → Next
assign_next bytes of_assign.AfterAssign f k at =
    option_map (λ n. (state.OfAssign (of_assign.AfterAssigned (name_of bytes n)), f)) (name_at k at)
assign_next bytes (of_assign.AfterAssigned name) f Equals at =
    assign (of_assign.WantsUnit (record { target = name; level = no_parts; frames = [] })) f
assign_next bytes (of_assign.AfterAssigned name) f _ at = None
assign_next bytes (of_assign.WantsUnit x) f k at = unit_next bytes x f k at
assign_next bytes (of_assign.AfterUnit x part) f k at = part_next x part f k

-- ---- the other items

abbrev pub fixed_next : Fixed → TokenKind → Option State
fixed_next fixed.WantsModule ModuleWord = Some state.WantsTitle
fixed_next fixed.AfterTitle OpenRound = Some state.WantsPort
fixed_next fixed.AfterPorts Semicolon = Some state.InItems
fixed_next fixed.AfterAlways At = Some (state.OfFixed fixed.AfterAt)
fixed_next fixed.AfterAt OpenRound = Some (state.OfFixed fixed.AfterClockOpen)
fixed_next fixed.AfterClockOpen PosedgeWord = Some (state.OfFixed fixed.AfterPosedge)
fixed_next fixed.AfterPosedge Clock = Some (state.OfFixed fixed.AfterClock)
fixed_next fixed.AfterClock CloseRound = Some (state.OfReg of_reg.AfterEdge)
fixed_next fixed.WantsEnd Semicolon = Some state.InItems
fixed_next _ _ = None

abbrev pub port_next : TokenKind → Option State
port_next Comma = Some state.WantsPort
port_next CloseRound = Some (state.OfFixed fixed.AfterPorts)
port_next _ = None

abbrev pub item_next : TokenKind → Option State
item_next (DeclWord kind) = Some (state.WantsName kind)
item_next (GateWord kind) = Some (state.OfGate (of_gate.AfterWord kind))
item_next AssignWord = Some (state.OfAssign of_assign.AfterAssign)
item_next AlwaysWord = Some (state.OfFixed fixed.AfterAlways)
item_next EndmoduleWord = Some state.Whole
item_next _ = None

abbrev pub name_next : DeclKind → TokenKind → Option State
name_next kind Comma = Some (state.WantsName kind)
name_next kind Semicolon = Some state.InItems
name_next kind _ = None

abbrev pub word_next : GateKind → TokenKind → Option State
word_next kind OpenRound = Some (state.OfGate (of_gate.WantsTarget kind))
word_next kind Name = Some (state.OfGate (of_gate.AfterInstance kind))
word_next kind Clock = Some (state.OfGate (of_gate.AfterInstance kind))
word_next kind _ = None

abbrev pub instance_next : GateKind → TokenKind → Option State
instance_next kind OpenRound = Some (state.OfGate (of_gate.WantsTarget kind))
instance_next kind _ = None

abbrev pub target_next : GateKind → RawName → TokenKind → Option State
target_next kind name Comma = Some (state.OfGate (of_gate.WantsPin kind name))
target_next kind name _ = None

abbrev pub register_next : RawName → TokenKind → Option State
register_next name Arrow = Some (state.OfReg (of_reg.AfterArrow name))
register_next name _ = None

abbrev pub first_pin : GateKind → RawName → RawPin → State
first_pin kind name p =
    if is_single kind then state.OfGate (of_gate.AfterPin kind name (p ∷ []))
    else state.OfGate (of_gate.AfterPins kind name (p ∷ []))

abbrev pub with_gate : Found → GateKind → RawName → List RawPin → Found
with_gate f kind name pins = with_gates f (f.gates ++ gate_of kind (target.Name name) pins ∷ [])

abbrev pub end_gate : GateKind → RawName → List RawPin → Found → Next
end_gate kind name pins f = Some (state.OfFixed fixed.WantsEnd, with_gate f kind name pins)

abbrev pub pins_next : GateKind → RawName → List RawPin → Found → TokenKind → Next
pins_next kind name pins f Comma = Some (state.OfGate (of_gate.WantsNextPin kind name pins), f)
pins_next kind name pins f CloseRound = end_gate kind name pins f
pins_next kind name pins f _ = None

abbrev pub pin_next : GateKind → RawName → List RawPin → Found → TokenKind → Next
pin_next kind name pins f CloseRound = end_gate kind name pins f
pin_next kind name pins f _ = None

abbrev pub gate_next : List ℕ → GateState → Found → TokenKind → Span → Next
gate_next bytes (of_gate.AfterWord kind) f k at = keeping f (word_next kind k)
gate_next bytes (of_gate.AfterInstance kind) f k at = keeping f (instance_next kind k)
gate_next bytes (of_gate.WantsTarget kind) f k at =
    option_map (λ n. (state.OfGate (of_gate.AfterTarget kind (name_of bytes n)), f)) (name_at k at)
gate_next bytes (of_gate.AfterTarget kind name) f k at = keeping f (target_next kind name k)
gate_next bytes (of_gate.WantsPin kind name) f k at =
    option_map (λ p. (first_pin kind name (operand_of bytes p), f)) (operand_at k at)
gate_next bytes (of_gate.WantsNextPin kind name pins) f k at =
    option_map (λ p. (state.OfGate (of_gate.AfterPins kind name (pins ++ operand_of bytes p ∷ [])), f))
    (operand_at k at)
gate_next bytes (of_gate.AfterPins kind name pins) f k at = pins_next kind name pins f k
gate_next bytes (of_gate.AfterPin kind name pins) f k at = pin_next kind name pins f k

abbrev pub reg_next : List ℕ → RegState → Found → TokenKind → Span → Next
reg_next bytes of_reg.AfterEdge f k at =
    option_map (λ n. (state.OfReg (of_reg.AfterRegister (name_of bytes n)), f)) (name_at k at)
reg_next bytes (of_reg.AfterRegister name) f k at = keeping f (register_next name k)
reg_next bytes (of_reg.AfterArrow name) f k at =
    option_map (λ p. (
      state.OfFixed fixed.WantsEnd,
      record f {
        regs = f.regs ++ (record { target = name; wire = operand_of bytes p }) ∷ [];
      },
    )) (operand_at k at)

abbrev pub title_next : List ℕ → Found → TokenKind → Span → Next
title_next bytes f k at =
    option_map (λ n. (state.OfFixed fixed.AfterTitle, record f { title = Some (name_of bytes n) })) (name_at k at)

abbrev pub listed_next : List ℕ → Found → TokenKind → Span → Next
listed_next bytes f k at =
    option_map (λ n. (state.AfterPort, record f { ports = f.ports ++ name_of bytes n ∷ [] })) (name_at k at)

abbrev pub declared_next : List ℕ → DeclKind → Found → TokenKind → Span → Next
declared_next bytes kind f k at =
    option_map (λ n. (
      state.AfterName kind,
      record f {
        decls = f.decls ++ (record { kind = kind; name = name_of bytes n }) ∷ [];
      },
    )) (name_at k at)

-- the machine behind a token, where the token may stand
abbrev pub next : List ℕ → State → Found → TokenKind → Span → Next
next bytes (state.OfFixed x) f k at = keeping f (fixed_next x k)
next bytes state.WantsTitle f k at = title_next bytes f k at
next bytes state.WantsPort f k at = listed_next bytes f k at
next bytes state.AfterPort f k at = keeping f (port_next k)
next bytes state.InItems f k at = keeping f (item_next k)
next bytes (state.WantsName kind) f k at = declared_next bytes kind f k at
next bytes (state.AfterName kind) f k at = keeping f (name_next kind k)
next bytes (state.OfGate x) f k at = gate_next bytes x f k at
next bytes (state.OfAssign x) f k at = assign_next bytes x f k at
next bytes (state.OfReg x) f k at = reg_next bytes x f k at
next bytes state.Whole f k at = None

-- a step of the code is this step of the machine
abbrev pub IsNext : Next → Option State → Found → Type 0
IsNext None None f = Unit {0}
IsNext None (Some s) f = ⊥
IsNext (Some x) None f = ⊥
IsNext (Some x) (Some s) f = (s ≡ x.0) × (f ≡ x.1)

abbrev pub is_whole : State → Bool
is_whole state.Whole = true
is_whole _ = false

-- nothing was found yet
abbrev pub nothing : Found
nothing = record { title = None; ports = []; decls = []; gates = []; regs = [] }

-- the netlist is what was found
pub record IsFound (f : Found) (raw : RawNetlist) : Type 0 where
  pub title : f.title ≡ Some raw.name
  pub ports : raw.ports ≡ f.ports
  pub decls : raw.decls ≡ f.decls
  pub gates : raw.gates ≡ f.gates
  pub regs : raw.regs ≡ f.regs
