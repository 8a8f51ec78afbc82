-- The raw netlist that a text stands for. A span gives the bytes of a name.
use Rattle.std.specs.Prelude.{ℕ, ◌+◌, ◌-◌, List, [], ◌∷◌, ◌++◌, length, take, drop}
use Rattle.pbs_base.specs.declared.refusal.Span.{Span}
use Rattle.net_core.specs.declared.gate.GateKind.{GateKind}
use Rattle.net_core.specs.declared.gate.GateKind.TheVariants.{Buf, Not, And, Or, Xor}
use Rattle.vlog_text.specs.declared.raw.DeclKind.{DeclKind}
use Rattle.vlog_text.specs.declared.raw.RawName.{RawName}
use Rattle.vlog_text.specs.declared.raw.RawDecl.{RawDecl}
use Rattle.vlog_text.specs.declared.raw.RawGate.{RawGate}
use Rattle.vlog_text.specs.declared.raw.RawReg.{RawReg}
use Rattle.vlog_text.specs.declared.raw.RawNetlist.{RawNetlist}
use Rattle.vlog_text.specs.declared.raw.RawPin.{RawPin}
use Rattle.vlog_text.specs.declared.raw.RawPin.TheVariants as pin
use Rattle.vlog_text.specs.declared.raw.Target.{Target}
use Rattle.vlog_text.specs.declared.raw.Target.TheVariants as target
use Rattle.vlog_text.specs.Grammar.{NamePhrase, OperandPhrase, Named, Constant, UnitPhrase, Negated, Bracketed, Lone}
use Rattle.vlog_text.specs.Grammar.{AndPhrase, OneUnit, MoreUnits, XorPhrase, OneAnd, MoreAnds, OrPhrase, OneXor}
use Rattle.vlog_text.specs.Grammar.{MoreXors, NamesPhrase, OneName, MoreNames, OperandsPhrase, OneOperand, MoreOperands}
use Rattle.vlog_text.specs.Grammar.{ItemPhrase, Declare, ManyGate, SingleGate, Assign, Always, ItemsPhrase, NoItems}
use Rattle.vlog_text.specs.Grammar.{MoreItems, TextPhrase}

-- the bytes of a span
abbrev pub word_at : List ℕ → Span → List ℕ
word_at bytes at = take (at.end - at.start) (drop at.start bytes)

abbrev pub name_of : List ℕ → NamePhrase → RawName
name_of bytes n = record { word = word_at bytes n.at; span = n.at }

abbrev pub operand_of : List ℕ → OperandPhrase → RawPin
operand_of bytes (Named n) = pin.Name (name_of bytes n)
operand_of bytes (Constant b at) = pin.Const b

abbrev pub names_of : List ℕ → NamesPhrase → List RawName
names_of bytes (OneName n) = name_of bytes n ∷ []
names_of bytes (MoreNames ns c n) = names_of bytes ns ++ name_of bytes n ∷ []

abbrev pub operands_of : List ℕ → OperandsPhrase → List RawPin
operands_of bytes (OneOperand p) = operand_of bytes p ∷ []
operands_of bytes (MoreOperands ps c p) = operands_of bytes ps ++ operand_of bytes p ∷ []

-- ---- the gates of an assign

abbrev pub gate_of : GateKind → Target → List RawPin → RawGate
gate_of kind target pins = record { kind = kind; target = target; pins = pins }

-- the gates of parts, in text order, and for each part the pin that reads it
pub record Parts : Type 0 where
  pub gates : List RawGate
  pub pins : List RawPin

abbrev pub parts : List RawGate → List RawPin → Parts
parts gates pins = record { gates = gates; pins = pins }

-- one gate more, over the parts, where n gates stand before them
abbrev pub with_gate : ℕ → GateKind → Parts → Parts
with_gate n kind p = parts (p.gates ++ gate_of kind target.Inner p.pins ∷ []) (pin.Prior (n + length p.gates) ∷ [])

-- several parts are one gate, and one part is itself
abbrev pub joined : ℕ → GateKind → Parts → Parts
joined n kind p = joined_by p.pins
  where
    joined_by : List RawPin → Parts
    joined_by (x ∷ y ∷ pins) = with_gate n kind p
    joined_by pins = p

-- parts, and those behind them, which take the number of the gates before them
abbrev pub beside : ℕ → Parts → (ℕ → Parts) → Parts
beside n p more = let q = more (n + length p.gates) in parts (p.gates ++ q.gates) (p.pins ++ q.pins)

-- n gates stand before; brackets make no gate
abbrev mutual
  pub unit_part : List ℕ → ℕ → UnitPhrase → Parts
  unit_part bytes n (Negated at u) = with_gate n Not (unit_part bytes n u)
  unit_part bytes n (Bracketed a o c) = joined n Or (or_parts bytes n o)
  unit_part bytes n (Lone p) = parts [] (operand_of bytes p ∷ [])

  pub and_parts : List ℕ → ℕ → AndPhrase → Parts
  and_parts bytes n (OneUnit u) = unit_part bytes n u
  and_parts bytes n (MoreUnits a at u) = beside n (and_parts bytes n a) (λ k. unit_part bytes k u)

  pub xor_parts : List ℕ → ℕ → XorPhrase → Parts
  xor_parts bytes n (OneAnd a) = joined n And (and_parts bytes n a)
  xor_parts bytes n (MoreAnds x at a) = beside n (xor_parts bytes n x) (λ k. joined k And (and_parts bytes k a))

  pub or_parts : List ℕ → ℕ → OrPhrase → Parts
  or_parts bytes n (OneXor x) = joined n Xor (xor_parts bytes n x)
  or_parts bytes n (MoreXors o at x) = beside n (or_parts bytes n o) (λ k. joined k Xor (xor_parts bytes k x))

-- the last gate drives the target; a lone operand is a `Buf`
abbrev pub driving : RawName → List RawPin → List RawGate → List RawGate
driving name pins [] = gate_of Buf (target.Name name) pins ∷ []
driving name pins (g ∷ gs) = last_drives g gs
  where
    last_drives : RawGate → List RawGate → List RawGate
    last_drives g [] = gate_of g.kind (target.Name name) g.pins ∷ []
    last_drives g (h ∷ hs) = g ∷ last_drives h hs

abbrev pub assign_gates : List ℕ → ℕ → NamePhrase → OrPhrase → List RawGate
assign_gates bytes n t o = let p = joined n Or (or_parts bytes n o) in driving (name_of bytes t) p.pins p.gates

-- ---- items

-- what the items have, each kind in text order
pub record Found : Type 0 where
  pub decls : List RawDecl
  pub gates : List RawGate
  pub regs : List RawReg

abbrev pub declare : DeclKind → List RawName → List RawDecl
declare kind [] = []
declare kind (n ∷ ns) = (record { kind = kind; name = n }) ∷ declare kind ns

abbrev pub with_item : List ℕ → Found → ItemPhrase → Found
with_item bytes f (Declare k at ns end) = record f { decls = f.decls ++ declare k (names_of bytes ns) }
with_item bytes f (ManyGate k many at i o t c ps close end) =
    record f { gates = f.gates ++ gate_of k (target.Name (name_of bytes t)) (operands_of bytes ps) ∷ [] }
with_item bytes f (SingleGate k single at i o t c p close end) =
    record f { gates = f.gates ++ gate_of k (target.Name (name_of bytes t)) (operand_of bytes p ∷ []) ∷ [] }
with_item bytes f (Assign at t q o end) = record f { gates = f.gates ++ assign_gates bytes (length f.gates) t o }
with_item bytes f (Always at a o p ck c t arrow pin end) =
    record f { regs = f.regs ++ (record { target = name_of bytes t; wire = operand_of bytes pin }) ∷ [] }

abbrev pub found_in : List ℕ → ItemsPhrase → Found
found_in bytes NoItems = record { decls = []; gates = []; regs = [] }
found_in bytes (MoreItems is i) = with_item bytes (found_in bytes is) i

abbrev pub raw_of : List ℕ → TextPhrase → RawNetlist
raw_of bytes p = let f = found_in bytes p.items in record {
  name = name_of bytes p.name;
  ports = names_of bytes p.ports;
  decls = f.decls;
  gates = f.gates;
  regs = f.regs;
}
