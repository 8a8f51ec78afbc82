-- The text that is written for a netlist. Each line ends with a newline.
use Rattle.std.specs.Prelude.{ℕ, ◌+◌, nat_eq, true, false, List, [], ◌∷◌, ◌++◌, codes, decimal, Option, Some, None}
use Rattle.std.specs.Prelude.{slice_index_or}
use Rattle.std.specs.List.{find, flat_map}
use Rattle.net_core.specs.declared.gate.Wire.{Wire}
use Rattle.net_core.specs.declared.gate.Wire.TheVariants as wire
use Rattle.net_core.specs.declared.gate.GateKind.{GateKind}
use Rattle.net_core.specs.declared.gate.GateKind.TheVariants as kind
use Rattle.net_core.specs.declared.gate.Gate as gate
use Rattle.net_core.specs.declared.netlist.Output.{Output}
use Rattle.net_core.specs.Circuits.{Circuit, output_names}

-- ---- names of wires

-- the output that the gate drives
abbrev pub driven : Circuit → ℕ → Option Output
driven c g = find (λ (o : Output). nat_eq o.gate g) c.outputs

abbrev pub target_text : Option Output → ℕ → List ℕ
target_text (Some o) g = o.name
target_text None g = codes "w" ++ decimal g

-- a gate has the name of the output that it drives, and any other is `w<g>`
abbrev pub gate_name : Circuit → ℕ → List ℕ
gate_name c g = target_text (driven c g) g

abbrev pub reg_name : ℕ → List ℕ
reg_name n = codes "q" ++ decimal n

abbrev pub operand_text : Circuit → Wire → List ℕ
operand_text c (wire.Const false) = codes "1'b0"
operand_text c (wire.Const true) = codes "1'b1"
operand_text c wire.Reset = codes "rst"
operand_text c (wire.Input n) = slice_index_or c.inputs n []
operand_text c (wire.Reg n) = reg_name n
operand_text c (wire.Gate g) = gate_name c g

abbrev pub kind_text : GateKind → List ℕ
kind_text kind.Buf = codes "buf"
kind_text kind.Not = codes "not"
kind_text kind.And = codes "and"
kind_text kind.Or = codes "or"
kind_text kind.Nand = codes "nand"
kind_text kind.Nor = codes "nor"
kind_text kind.Xor = codes "xor"
kind_text kind.Xnor = codes "xnor"

-- ---- lines

-- a name behind those before it
abbrev pub listed : List ℕ → List ℕ
listed name = codes ", " ++ name

abbrev pub declared : List ℕ → List ℕ → List ℕ
declared word name = word ++ codes " " ++ name ++ codes ";\n"

abbrev pub wire_line : Option Output → ℕ → List ℕ
wire_line (Some o) g = []
wire_line None g = codes "wire w" ++ decimal g ++ codes ";\n"

-- `<kind> (<target>, <pins>);`
abbrev pub gate_line : Circuit → ℕ → gate.Gate → List ℕ
gate_line c n g =
    kind_text g.kind ++ codes " (" ++ gate_name c n ++ flat_map (λ w. listed (operand_text c w)) g.pins ++ codes ");\n"

abbrev pub always_line : Circuit → ℕ → Wire → List ℕ
always_line c n w = codes "always @(posedge clk) " ++ reg_name n ++ codes " <= " ++ operand_text c w ++ codes ";\n"

-- ---- the text

-- a line for each item, from this number on
abbrev pub numbered : {A : Type 0} → (ℕ → A → List ℕ) → ℕ → List A → List ℕ
numbered line n [] = []
numbered line n (x ∷ xs) = line n x ++ numbered line (n + 1) xs

abbrev pub module_line : Circuit → List ℕ
module_line c =
    codes "module pbs (clk, rst" ++ flat_map listed c.inputs ++ flat_map listed (output_names c) ++ codes ");\n"

abbrev pub input_lines : Circuit → List ℕ
input_lines c = codes "input clk;\ninput rst;\n" ++ flat_map (declared (codes "input")) c.inputs

abbrev pub output_lines : Circuit → List ℕ
output_lines c = flat_map (declared (codes "output")) (output_names c)

abbrev pub reg_lines : Circuit → List ℕ
reg_lines c = numbered (λ n (w : Wire). declared (codes "reg") (reg_name n)) 0 c.registers

-- for each gate that drives no output
abbrev pub wire_lines : Circuit → List ℕ
wire_lines c = numbered (λ n (g : gate.Gate). wire_line (driven c n) n) 0 c.gates

abbrev pub gate_lines : Circuit → List ℕ
gate_lines c = numbered (gate_line c) 0 c.gates

abbrev pub always_lines : Circuit → List ℕ
always_lines c = numbered (always_line c) 0 c.registers

abbrev pub emitted : Circuit → List ℕ
emitted c =
    module_line c ++ input_lines c ++ output_lines c ++ reg_lines c ++ wire_lines c ++ gate_lines c ++ always_lines c
    ++ codes "endmodule\n"
