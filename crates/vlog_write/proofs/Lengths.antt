-- How long the text of a netlist is.
use Rattle.std.proofs.Common.{◌≡◌, ℕ, ◌+◌, ◌*◌, ◌<◌, ◌≤◌, List, [], ◌∷◌, ◌++◌, length, Bool, true}
use Rattle.std.proofs.Common.{false, Option, Some, None, cond, refl, length-append, arith}
use Rattle.std.specs.Prelude.{IsTrue, codes, decimal, slice_index_or, nat_eq}
use Rattle.std.specs.List.{find, flat_map}
use Rattle.std.proofs.lemmas.Bool.{eqb-true}
use Rattle.std.proofs.lemmas.Fmt.{length-decimal-le}
use Rattle.std.proofs.lemmas.List.{length-map}
use Rattle.std.proofs.lemmas.Option.{slice_get_within, slice_get-get_or}
use Rattle.net_core.specs.declared.gate.Wire.{Wire}
use Rattle.net_core.specs.declared.gate.Wire.TheVariants as wire
use Rattle.net_core.specs.declared.gate.GateKind.{GateKind}
use Rattle.net_core.specs.declared.gate.GateKind.TheVariants as kind
use Rattle.net_core.specs.declared.gate.Gate as gate
use Rattle.net_core.specs.declared.netlist.Output.{Output}
use Rattle.net_core.specs.Circuits.{Circuit, IsCircuit, IsThere, is_plain_kind, IsPlain, IsBuilt, output_names}
use Rattle.vlog_text.specs.Emitted.{driven, target_text, gate_name, reg_name, operand_text, kind_text, listed, declared}
use Rattle.vlog_text.specs.Emitted.{wire_line, gate_line, always_line, numbered, module_line, input_lines}
use Rattle.vlog_text.specs.Emitted.{output_lines, reg_lines, wire_lines, gate_lines, always_lines, emitted}
use Rattle.vlog_text.specs.PortNames.{port_names, HasPortNames}
use Rattle.vlog_text.specs.Reading.{IsShortVerilog}
use Rattle.vlog_write.specs.NamedPins.{output_pin, named_pin, list_named_pins, gate_named_pins, named_pins}
use Rattle.vlog_write.specs.NamedPins.{HasShortNames}
use Rattle.vlog_write.proofs.Lists.{Each, each_left, each_right, each_mapped, each_from, each_at}
use Rattle.vlog_write.proofs.Readable.{found-driven}

short_number : (n : ℕ) → n < 10000000 → length (decimal n) ≤ 7
short_number n h = length-decimal-le 7 n (omega arith) h (omega arith)

-- ---- how many gates drive outputs

abbrev output_pins : List Output → ℕ → List gate.Gate → ℕ
output_pins outputs k [] = 0
output_pins outputs k (g ∷ gs) =
    output_pin (find (λ (o : Output). nat_eq o.gate k) outputs) + output_pins outputs (k + 1) gs

abbrev once : Bool → ℕ
once true = 1
once false = 0

-- how often a number is met
abbrev met : ℕ → ℕ → List gate.Gate → ℕ
met m k [] = 0
met m k (g ∷ gs) = once (nat_eq m k) + met m (k + 1) gs

met_before : (m k : ℕ) (gs : List gate.Gate) → m < k → met m k gs ≡ 0
met_before m k [] h = refl
met_before m k (g ∷ gs) h = by (nat_eq m k) refl (met_before m (k + 1) gs (omega arith))
  where
    by : (b : Bool) → nat_eq m k ≡ b → met m (k + 1) gs ≡ 0 → once b + met m (k + 1) gs ≡ 0
    by true e f = let same = eqb-true m k e in absurd (omega arith)
    by false e f = omega arith

met_once : (m k : ℕ) (gs : List gate.Gate) → met m k gs ≤ 1
met_once m k [] = omega arith
met_once m k (g ∷ gs) = by (nat_eq m k) refl (met_once m (k + 1) gs) (met_before m (k + 1) gs)
  where
    by : (b : Bool) → nat_eq m k ≡ b → met m (k + 1) gs ≤ 1 → (m < k + 1 → met m (k + 1) gs ≡ 0)
        → once b + met m (k + 1) gs ≤ 1
    by true e f before = let same = eqb-true m k e in let none = before (omega arith) in omega arith
    by false e f before = omega arith

none_driven : (k : ℕ) (gs : List gate.Gate) → output_pins [] k gs ≡ 0
none_driven k [] = refl
none_driven k (g ∷ gs) = let e = none_driven (k + 1) gs in omega arith

one_driven : (o : Output) (os : List Output) (k : ℕ) (gs : List gate.Gate)
    → output_pins (o ∷ os) k gs ≤ met o.gate k gs + output_pins os k gs
one_driven o os k [] = omega arith
one_driven o os k (g ∷ gs) = by (nat_eq o.gate k) (one_driven o os (k + 1) gs)
  where
    more : Option Output
    more = find (λ (o : Output). nat_eq o.gate k) os

    by : (b : Bool) → output_pins (o ∷ os) (k + 1) gs ≤ met o.gate (k + 1) gs + output_pins os (k + 1) gs
        → output_pin (cond b (Some o) more) + output_pins (o ∷ os) (k + 1) gs
        ≤ once b + met o.gate (k + 1) gs + (output_pin more + output_pins os (k + 1) gs)
    by true h = omega arith
    by false h = omega arith

few_driven : (outputs : List Output) (k : ℕ) (gs : List gate.Gate) → output_pins outputs k gs ≤ length outputs
few_driven [] k gs = let e = none_driven k gs in omega arith
few_driven (o ∷ os) k gs =
    let one = one_driven o os k gs in
    let most = met_once o.gate k gs in
    let more = few_driven os k gs in
    omega arith

-- ---- lines of names

listed-length : (ws : List (List ℕ)) → Each (λ w. length w ≤ 68) ws → length (flat_map listed ws) ≤ 70 * length ws
listed-length [] h = omega arith
listed-length (w ∷ ws) h =
    let e = length-append (listed w) (flat_map listed ws) in
    let here = h.0 in
    let more = listed-length ws h.1 in
    omega arith

declared-is : (word name : List ℕ) → length (declared word name) ≡ length word + 1 + length name + 2
declared-is word name = simp length-append

declared-length : (word : List ℕ) (ws : List (List ℕ)) → length word ≤ 6 → Each (λ w. length w ≤ 68) ws
    → length (flat_map (declared word) ws) ≤ 77 * length ws
declared-length word [] short h = omega arith
declared-length word (w ∷ ws) short h =
    let e = length-append (declared word w) (flat_map (declared word) ws) in
    let d = declared-is word w in
    let here = h.0 in
    let more = declared-length word ws short h.1 in
    omega arith

plain-kind : (k : GateKind) → IsTrue (is_plain_kind k) → length (kind_text k) ≤ 3
plain-kind kind.Buf h = omega arith
plain-kind kind.Not h = omega arith
plain-kind kind.And h = omega arith
plain-kind kind.Or h = omega arith
plain-kind kind.Nand h = absurd cc
plain-kind kind.Nor h = absurd cc
plain-kind kind.Xor h = absurd cc
plain-kind kind.Xnor h = absurd cc

gate-is : (k t p : List ℕ) → length (k ++ codes " (" ++ t ++ p ++ codes ");\n") ≡ length k + 2 + length t + length p + 3
gate-is k t p = simp length-append

always-is : (a q o : List ℕ)
    → length (a ++ q ++ codes " <= " ++ o ++ codes ";\n") ≡ length a + length q + 4 + length o + 2
always-is a q o = simp length-append

eight : (m i o r w g a e : List ℕ) → length (m ++ i ++ o ++ r ++ w ++ g ++ a ++ e)
    ≡ length m + length i + length o + length r + length w + length g + length a + length e
eight m i o r w g a e = simp length-append

four : (m i o e : List ℕ) → length (m ++ i ++ o ++ e) ≡ length m + length i + length o + length e
four m i o e = simp length-append

module _ (c : Circuit) (good : IsCircuit c) (short : HasShortNames c) (few_gates : length c.gates ≤ 1185792)
    (few_regs : length c.registers ≤ 4160) where
  abbrev IsBrief : List ℕ → Type 0
  IsBrief w = length w ≤ 68

  ports-short : Each IsBrief (port_names c)
  ports-short = each_from IsBrief (port_names c) short.each

  inputs-short : Each IsBrief c.inputs
  inputs-short = each_left IsBrief c.inputs (output_names c) ports-short

  outputs-short : Each IsBrief (output_names c)
  outputs-short = each_right IsBrief c.inputs (output_names c) ports-short

  target-length : (n : ℕ) → n < 1185792 → length (gate_name c n) ≤ 8 + 68 * output_pin (driven c n)
  target-length n low = by (driven c n) refl
    where
      by : (o : Option Output) → driven c n ≡ o → length (target_text o n) ≤ 8 + 68 * output_pin o
      by (Some o) e =
          let d = found-driven c.outputs n o e in
          let most = each_at (λ (o : Output). length o.name ≤ 68) c.outputs d.place o
          (each_mapped IsBrief (λ (o : Output). o.name) c.outputs outputs-short) d.there in
          omega arith
      by None e = let most = short_number n (omega arith) in omega arith

  -- a target, and the line of its wire
  wire-length : (n : ℕ) → n < 1185792
      → length (wire_line (driven c n) n) + length (gate_name c n) ≤ 23 + 68 * output_pin (driven c n)
  wire-length n low = by (driven c n) refl
    where
      by : (o : Option Output) → driven c n ≡ o
          → length (wire_line o n) + length (target_text o n) ≤ 23 + 68 * output_pin o
      by (Some o) e =
          let d = found-driven c.outputs n o e in
          let most = each_at (λ (o : Output). length o.name ≤ 68) c.outputs d.place o
          (each_mapped IsBrief (λ (o : Output). o.name) c.outputs outputs-short) d.there in
          omega arith
      by None e =
          let most = short_number n (omega arith) in
          let line = length-append (decimal n) (codes ";\n") in
          omega arith

  operand-length : (gates : ℕ) (w : Wire) → gates ≤ length c.gates
      → IsThere (length c.inputs) (length c.registers) gates w → length (operand_text c w) ≤ 8 + 68 * named_pin c w
  operand-length gates (wire.Const false) few h = omega arith
  operand-length gates (wire.Const true) few h = omega arith
  operand-length gates wire.Reset few h = omega arith
  operand-length gates (wire.Input n) few h =
      let most = each_at IsBrief c.inputs n (slice_index_or c.inputs n []) inputs-short
      (slice_get-get_or c.inputs n [] h) in
      omega arith
  operand-length gates (wire.Reg n) few h = let most = short_number n (omega arith) in omega arith
  operand-length gates (wire.Gate n) few h = target-length n (omega arith)

  abbrev OperandIsShort : Wire → Type 0
  OperandIsShort w = length (operand_text c w) ≤ 8 + 68 * named_pin c w

  pins-length : (ws : List Wire) → Each OperandIsShort ws
      → length (flat_map (λ w. listed (operand_text c w)) ws) ≤ 10 * length ws + 68 * list_named_pins c ws
  pins-length [] h = omega arith
  pins-length (w ∷ ws) h =
      let e = length-append (listed (operand_text c w)) (flat_map (λ w. listed (operand_text c w)) ws) in
      let here = h.0 in
      let more = pins-length ws h.1 in
      omega arith

  gate-length : (n : ℕ) (g : gate.Gate) → n < 1185792 → IsPlain g → Each OperandIsShort g.pins
      → length (wire_line (driven c n) n) + length (gate_line c n g)
      ≤ 51 + 68 * output_pin (driven c n) + 68 * list_named_pins c g.pins
  gate-length n g low plain h =
      let word = plain-kind g.kind plain.kind in
      let two = plain.pins in
      let target = wire-length n low in
      let pins = pins-length g.pins h in
      let line = gate-is (kind_text g.kind) (gate_name c n) (flat_map (λ w. listed (operand_text c w)) g.pins) in
      omega arith

  abbrev wires_from : ℕ → List gate.Gate → List ℕ
  wires_from k gs = numbered (λ n (g : gate.Gate). wire_line (driven c n) n) k gs

  gates-length : (k : ℕ) (gs : List gate.Gate) → k + length gs ≤ 1185792
      → Each (λ (g : gate.Gate). IsPlain g × Each OperandIsShort g.pins) gs
      → length (wires_from k gs) + length (numbered (gate_line c) k gs)
      ≤ 51 * length gs + 68 * output_pins c.outputs k gs + 68 * gate_named_pins c gs
  gates-length k [] few h = omega arith
  gates-length k (g ∷ gs) few h =
      let e = length-append (wire_line (driven c k) k) (wires_from (k + 1) gs) in
      let f = length-append (gate_line c k g) (numbered (gate_line c) (k + 1) gs) in
      let here = gate-length k g (omega arith) h.0.0 h.0.1 in
      let more = gates-length (k + 1) gs (omega arith) h.1 in
      omega arith

  abbrev regs_from : ℕ → List Wire → List ℕ
  regs_from k ws = numbered (λ n (w : Wire). declared (codes "reg") (reg_name n)) k ws

  regs-length : (k : ℕ) (ws : List Wire) → k + length ws ≤ 4160 → Each OperandIsShort ws
      → length (regs_from k ws) + length (numbered (always_line c) k ws) ≤ 58 * length ws + 68 * list_named_pins c ws
  regs-length k [] few h = omega arith
  regs-length k (w ∷ ws) few h =
      let number = short_number k (omega arith) in
      let e = length-append (declared (codes "reg") (reg_name k)) (regs_from (k + 1) ws) in
      let f = length-append (always_line c k w) (numbered (always_line c) (k + 1) ws) in
      let d = declared-is (codes "reg") (reg_name k) in
      let line = always-is (codes "always @(posedge clk) ") (reg_name k) (operand_text c w) in
      let here = h.0 in
      let more = regs-length (k + 1) ws (omega arith) h.1 in
      omega arith

  pins-short : IsBuilt c.gates → Each (λ (g : gate.Gate). IsPlain g × Each OperandIsShort g.pins) c.gates
  pins-short built =
      each_from (λ (g : gate.Gate). IsPlain g × Each OperandIsShort g.pins) c.gates
      (λ k g at. let fits = good.gates_fit k g at in let low = slice_get_within c.gates k g at in (
        built.each k g at,
        each_from OperandIsShort g.pins
            (λ i w e. operand-length k w (omega arith) (fits.there.each i w e)),
      ))

  data-short : Each OperandIsShort c.registers
  data-short =
      each_from OperandIsShort c.registers
      (λ i w e. operand-length (length c.gates) w (omega arith) (good.data_there.each i w e))

  header-length : length (module_line c) + length (input_lines c) + length (output_lines c) ≤ 28269
  header-length =
      let inputs = good.inputs_few in
      let outputs = good.outputs_few in
      let count = length-map c.outputs (λ (o : Output). o.name) in
      let a = listed-length c.inputs inputs-short in
      let b = listed-length (output_names c) outputs-short in
      let d = declared-length (codes "input") c.inputs (omega arith) inputs-short in
      let e = declared-length (codes "output") (output_names c) (omega arith) outputs-short in
      let line = four (codes "module pbs (clk, rst") (flat_map listed c.inputs) (flat_map listed (output_names c))
      (codes ");\n") in
      let more = length-append (codes "input clk;\ninput rst;\n") (flat_map (declared (codes "input")) c.inputs) in
      omega arith

  whole-length : IsBuilt c.gates → named_pins c ≤ 33000 → length (emitted c) ≤ 67108864
  whole-length built pins =
      let e = eight (module_line c) (input_lines c) (output_lines c) (reg_lines c) (wire_lines c) (gate_lines c)
      (always_lines c) (codes "endmodule\n") in
      let header = header-length in
      let gates = gates-length 0 c.gates (omega arith) (pins-short built) in
      let regs = regs-length 0 c.registers (omega arith) data-short in
      let driven = few_driven c.outputs 0 c.gates in
      let outputs = good.outputs_few in
      omega arith

pub built_is_short : (c : Circuit) → IsCircuit c → IsBuilt c.gates → HasPortNames c → HasShortNames c
    → length c.gates ≤ 1185792 → length c.registers ≤ 4160 → named_pins c ≤ 33000 → IsShortVerilog (emitted c)
built_is_short c good built names short gates regs pins = whole-length c good short gates regs built pins
