-- What a netlist's raw netlist has, spans aside.
use Rattle.std.proofs.Common.{◌≡◌, ℕ, ◌+◌, List, [], ◌∷◌, ◌++◌, map, Option, Some, None}
use Rattle.std.specs.Prelude.{codes}
use Rattle.pbs_base.specs.declared.refusal.Span.{Span}
use Rattle.net_core.specs.declared.gate.Wire.{Wire}
use Rattle.net_core.specs.declared.gate.Wire.TheVariants as wire
use Rattle.net_core.specs.declared.gate.Gate as gate
use Rattle.net_core.specs.declared.netlist.Output.{Output}
use Rattle.net_core.specs.Circuits.{Circuit, output_names}
use Rattle.vlog_text.specs.declared.raw.DeclKind.{DeclKind}
use Rattle.vlog_text.specs.declared.raw.DeclKind.TheVariants as kind
use Rattle.vlog_text.specs.declared.raw.RawName.{RawName}
use Rattle.vlog_text.specs.declared.raw.RawDecl.{RawDecl}
use Rattle.vlog_text.specs.declared.raw.RawGate.{RawGate}
use Rattle.vlog_text.specs.declared.raw.RawReg.{RawReg}
use Rattle.vlog_text.specs.declared.raw.RawNetlist.{RawNetlist}
use Rattle.vlog_text.specs.declared.raw.RawPin.{RawPin}
use Rattle.vlog_text.specs.declared.raw.RawPin.TheVariants as pin
use Rattle.vlog_text.specs.declared.raw.Target.{Target}
use Rattle.vlog_text.specs.declared.raw.Target.TheVariants as target
use Rattle.vlog_text.specs.Emitted.{driven, gate_name, reg_name, operand_text}
use Rattle.vlog_text.specs.PortNames.{port_names}
use Rattle.vlog_write.proofs.WrittenNames.{wire_name}

-- ---- without spans

abbrev no_span : Span
no_span = record { start = 0; end = 0 }

abbrev pub plain : List ℕ → RawName
plain word = record { word = word; span = no_span }

abbrev pub bare : RawName → RawName
bare n = plain n.word

abbrev pub word_of : RawName → List ℕ
word_of n = n.word

abbrev pub bare_pin : RawPin → RawPin
bare_pin (pin.Const b) = pin.Const b
bare_pin (pin.Name n) = pin.Name (bare n)
bare_pin (pin.Prior n) = pin.Prior n

abbrev pub bare_target : Target → Target
bare_target (target.Name n) = target.Name (bare n)
bare_target target.Inner = target.Inner

abbrev pub bare_gate : RawGate → RawGate
bare_gate g = record { kind = g.kind; target = bare_target g.target; pins = map bare_pin g.pins }

abbrev pub bare_reg : RawReg → RawReg
bare_reg r = record { target = bare r.target; wire = bare_pin r.wire }

-- what is declared, and as what
abbrev pub Shape : Type 0
Shape = DeclKind × List ℕ

abbrev pub shape : RawDecl → Shape
shape d = (d.kind, d.name.word)

-- ---- what a netlist has

-- the names of numbered things, from this number on
abbrev pub named : {A : Type 0} → (ℕ → List ℕ) → ℕ → List A → List (List ℕ)
named name n [] = []
named name n (x ∷ xs) = name n ∷ named name (n + 1) xs

abbrev pub or_wire : Option Output → ℕ → List (List ℕ) → List (List ℕ)
or_wire (Some o) n names = names
or_wire None n names = wire_name n ∷ names

-- the names of the gates that drive no output
abbrev pub wire_names : Circuit → ℕ → List gate.Gate → List (List ℕ)
wire_names c n [] = []
wire_names c n (g ∷ gs) = or_wire (driven c n) n (wire_names c (n + 1) gs)

abbrev pub of_kind : DeclKind → List (List ℕ) → List Shape
of_kind k names = map (λ w. (k, w)) names

abbrev pub port_decls : Circuit → List Shape
port_decls c = of_kind kind.Input c.inputs ++ of_kind kind.Output (output_names c)

abbrev pub inner_decls : Circuit → List Shape
inner_decls c = of_kind kind.Reg (named reg_name 0 c.registers) ++ of_kind kind.Wire (wire_names c 0 c.gates)

abbrev pub all_decls : Circuit → List Shape
all_decls c =
    (kind.Input, codes "clk") ∷ (kind.Input, codes "rst") ∷ (port_decls c ++ inner_decls c)

abbrev pub all_ports : Circuit → List (List ℕ)
all_ports c = codes "clk" ∷ codes "rst" ∷ port_names c

abbrev pub written_pin : Circuit → Wire → RawPin
written_pin c (wire.Const b) = pin.Const b
written_pin c w = pin.Name (plain (operand_text c w))

abbrev pub written_gate : Circuit → ℕ → gate.Gate → RawGate
written_gate c n g =
    record { kind = g.kind; target = target.Name (plain (gate_name c n)); pins = map (written_pin c) g.pins }

abbrev pub written_gates : Circuit → ℕ → List gate.Gate → List RawGate
written_gates c n [] = []
written_gates c n (g ∷ gs) = written_gate c n g ∷ written_gates c (n + 1) gs

abbrev pub written_reg : Circuit → ℕ → Wire → RawReg
written_reg c n w = record { target = plain (reg_name n); wire = written_pin c w }

abbrev pub written_regs : Circuit → ℕ → List Wire → List RawReg
written_regs c n [] = []
written_regs c n (w ∷ ws) = written_reg c n w ∷ written_regs c (n + 1) ws

-- the raw netlist has what the netlist has
pub record IsRawOf (c : Circuit) (raw : RawNetlist) : Type 0 where
  pub ports_are : map word_of raw.ports ≡ all_ports c
  pub decls_are : map shape raw.decls ≡ all_decls c
  pub gates_are : map bare_gate raw.gates ≡ written_gates c 0 c.gates
  pub regs_are : map bare_reg raw.regs ≡ written_regs c 0 c.registers
