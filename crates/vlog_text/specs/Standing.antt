-- The netlist that a raw one stands for. Where a rule is broken it means nothing.
use Rattle.std.specs.Prelude.{ℕ, Bool, true, false, not, ◌&&◌, ◌||◌, List, map, filter, codes, Option, Some, None}
use Rattle.std.specs.Prelude.{unwrap_or, if◌then◌else◌}
use Rattle.std.specs.List.{find, list_any, position_from}
use Rattle.std.specs.Str.{bytes_eq}
use Rattle.net_core.specs.declared.gate.Wire.{Wire}
use Rattle.net_core.specs.declared.gate.Wire.TheVariants as wire
use Rattle.net_core.specs.declared.gate.Gate as gate
use Rattle.net_core.specs.declared.netlist.Output.{Output}
use Rattle.net_core.specs.Circuits.{Circuit, circuit_of}
use Rattle.vlog_text.specs.declared.raw.DeclKind.{DeclKind}
use Rattle.vlog_text.specs.declared.raw.DeclKind.TheVariants as kind
use Rattle.vlog_text.specs.declared.raw.RawName.{RawName}
use Rattle.vlog_text.specs.declared.raw.RawDecl.{RawDecl}
use Rattle.vlog_text.specs.declared.raw.RawGate.{RawGate}
use Rattle.vlog_text.specs.declared.raw.RawReg.{RawReg}
use Rattle.vlog_text.specs.declared.raw.RawNetlist.{RawNetlist}
use Rattle.vlog_text.specs.declared.raw.RawPin.{RawPin}
use Rattle.vlog_text.specs.declared.raw.RawPin.TheVariants as pin
use Rattle.vlog_text.specs.Words.{has_word, target_name}
use Rattle.vlog_text.specs.Orders.{order_of, place_in, renumbered, reordered}

abbrev pub is_input : DeclKind → Bool
is_input kind.Input = true
is_input _ = false

abbrev pub is_output : DeclKind → Bool
is_output kind.Output = true
is_output _ = false

abbrev pub is_reg : DeclKind → Bool
is_reg kind.Reg = true
is_reg _ = false

abbrev pub is_port : DeclKind → Bool
is_port k = is_input k || is_output k

abbrev pub is_clock : List ℕ → Bool
is_clock word = bytes_eq word (codes "clk")

abbrev pub is_reset : List ℕ → Bool
is_reset word = bytes_eq word (codes "rst")

-- the word is declared as such a thing
abbrev pub is_declared : RawNetlist → (DeclKind → Bool) → List ℕ → Bool
is_declared raw such word = list_any (λ (d : RawDecl). such d.kind && has_word word d.name) raw.decls

-- an input other than `clk` and `rst`
abbrev pub is_plain_input : RawNetlist → List ℕ → Bool
is_plain_input raw word = is_declared raw is_input word && not (is_clock word || is_reset word)

-- inputs and outputs in the order of the port list, registers in the order of declaration
abbrev pub inputs : RawNetlist → List RawName
inputs raw = filter (λ (n : RawName). is_plain_input raw n.word) raw.ports

abbrev pub outputs : RawNetlist → List RawName
outputs raw = filter (λ (n : RawName). is_declared raw is_output n.word) raw.ports

abbrev pub registers : RawNetlist → List RawName
registers raw = map (λ (d : RawDecl). d.name) (filter (λ (d : RawDecl). is_reg d.kind) raw.decls)

abbrev pub number_of : List RawName → List ℕ → ℕ
number_of names word = unwrap_or (position_from (has_word word) 0 names) 0

abbrev pub drives : List ℕ → Option RawName → Bool
drives word (Some name) = has_word word name
drives word None = false

-- the raw gate that drives a word
abbrev pub driver : RawNetlist → List ℕ → ℕ
driver raw word = unwrap_or (position_from (λ (g : RawGate). drives word (target_name g.target)) 0 raw.gates) 0

-- what an operand reads; a gate by its place in the text
abbrev pub word_wire : RawNetlist → List ℕ → Wire
word_wire raw word =
    if is_plain_input raw word then wire.Input (number_of (inputs raw) word)
    else if is_declared raw is_input word then wire.Reset
    else if is_declared raw is_reg word then wire.Reg (number_of (registers raw) word)
    else wire.Gate (driver raw word)

abbrev pub pin_wire : RawNetlist → RawPin → Wire
pin_wire raw (pin.Const b) = wire.Const b
pin_wire raw (pin.Name name) = word_wire raw name.word
pin_wire raw (pin.Prior n) = wire.Gate n

abbrev pub resolved : RawNetlist → RawGate → gate.Gate
resolved raw g = record { kind = g.kind; pins = map (pin_wire raw) g.pins }

-- the gates in text order, and the order in which they are taken
abbrev pub text_gates : RawNetlist → List gate.Gate
text_gates raw = map (resolved raw) raw.gates

abbrev pub the_order : RawNetlist → List ℕ
the_order raw = order_of (text_gates raw)

-- what a register takes
abbrev pub data_wire : RawNetlist → Option RawReg → Wire
data_wire raw (Some r) = renumbered (place_in (the_order raw)) (pin_wire raw r.wire)
data_wire raw None = wire.Const false

abbrev pub register_wire : RawNetlist → RawName → Wire
register_wire raw n = data_wire raw (find (λ (r : RawReg). has_word n.word r.target) raw.regs)

abbrev pub output_of : RawNetlist → RawName → Output
output_of raw n = record { name = n.word; gate = place_in (the_order raw) (driver raw n.word) }

abbrev pub net_of : RawNetlist → Circuit
net_of raw =
    circuit_of (map (λ (n : RawName). n.word) (inputs raw)) (reordered (text_gates raw) (the_order raw))
    (map (register_wire raw) (registers raw)) (map (output_of raw) (outputs raw))
