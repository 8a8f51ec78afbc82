-- A small netlist that meets the laws' premises, what is written for it, and how many of its pins have names of ports.
use Rattle.std.proofs.Common.{◌≡◌, ℕ, zero, suc, List, [], ◌∷◌, ◌++◌, length, Some, ◌<◌, ◌≤◌, codes, refl}
use Rattle.std.proofs.Common.{sym, subst, ◌∙◌, arith, lit<}
use Rattle.std.specs.Prelude.{slice_get}
use Rattle.std.specs.Fmt.{digits}
use Rattle.std.proofs.lemmas.Option.{same_Some}
use Rattle.net_core.specs.declared.gate.Wire.TheVariants as wire
use Rattle.net_core.specs.declared.gate.GateKind.TheVariants as kind
use Rattle.net_core.specs.declared.gate.Gate as gate
use Rattle.net_core.specs.declared.netlist.Output.{Output}
use Rattle.net_core.specs.Circuits.{Circuit, circuit_of, IsThere, FitsAfter, IsCircuit, IsPlain, IsBuilt}
use Rattle.vlog_text.specs.Emitted.{emitted}
use Rattle.vlog_text.specs.PortNames.{IsPortName, port_names, HasPortNames}
use Rattle.vlog_text.specs.Reading.{ElaboratesTo}
use Rattle.vlog_write.specs.NamedPins.{named_pins, HasShortNames}
use Rattle.vlog_write.proofs.Lengths.{built_is_short}
use Rattle.vlog_write.proofs.Lists.{each_at}
use Rattle.vlog_write.proofs.WrittenNames.{not_same}
use Rattle.vlog_write.proofs.Whole.{written_is_read}

-- a register that takes the input or itself, and an output that shows what it takes
abbrev small : Circuit
small =
    circuit_of (codes "i_a" ∷ [])
    (record { kind = kind.Or; pins = wire.Input 0 ∷ wire.Reg 0 ∷ [] }
    ∷ record { kind = kind.Buf; pins = wire.Gate 0 ∷ [] } ∷ [])
    (wire.Gate 1 ∷ []) ((record { name = codes "o_x"; gate = 1 }) ∷ [])

small_emitted : emitted small
    ≡ codes "module pbs (clk, rst, i_a, o_x);\ninput clk;\ninput rst;\ninput i_a;\noutput o_x;\n"
    ++ codes "reg q0;\nwire w0;\nor (w0, i_a, q0);\nbuf (o_x, w0);\nalways @(posedge clk) q0 <= o_x;\n"
    ++ codes "endmodule\n"
unfolding digits
small_emitted = refl

-- `i_a` in the first gate, and `o_x` in the register
small_pins : named_pins small ≡ 2
small_pins = refl

abbrev first : gate.Gate
first = record { kind = kind.Or; pins = wire.Input 0 ∷ wire.Reg 0 ∷ [] }

abbrev second : gate.Gate
second = record { kind = kind.Buf; pins = wire.Gate 0 ∷ [] }

first_fits : FitsAfter 1 1 0 first
first_fits = record {
  there = record { each = λ n w e. each_at (IsThere 1 1 0) first.pins n w (lit< tt, (lit< tt, tt)) e };
  count = omega arith;
}

second_fits : FitsAfter 1 1 1 second
second_fits = record {
  there = record { each = λ n w e. each_at (IsThere 1 1 1) second.pins n w (lit< tt, tt) e };
  count = refl;
}

gate_fits : (n : ℕ) (g : gate.Gate) → slice_get small.gates n ≡ Some g → FitsAfter 1 1 n g
gate_fits zero g e = subst (FitsAfter 1 1 0) (same_Some first g e) first_fits
gate_fits (suc zero) g e = subst (FitsAfter 1 1 1) (same_Some second g e) second_fits
gate_fits (suc (suc n)) g e = absurd cc

one_output : (m n : ℕ) (o p : Output) → slice_get small.outputs m ≡ Some o → slice_get small.outputs n ≡ Some p → m ≡ n
one_output zero zero o p e f = refl
one_output zero (suc n) o p e f = absurd cc
one_output (suc m) n o p e f = absurd cc

small_is : IsCircuit small
small_is = record {
  inputs_few = omega arith;
  gates_few = omega arith;
  registers_few = omega arith;
  outputs_few = omega arith;
  gates_fit = gate_fits;
  data_there = record { each = λ n w e. each_at (IsThere 1 1 2) small.registers n w (lit< tt, tt) e };
  outputs_right = record {
    there = λ n o e. each_at (λ (o : Output). o.gate < 2) small.outputs n o (lit< tt, tt) e;
    names_once = λ m n o p e f same. one_output m n o p e f;
    gates_once = λ m n o p e f same. one_output m n o p e f;
  };
}

small_built : IsBuilt small.gates
small_built = record {
  each = λ n g e. each_at IsPlain small.gates n g
      (record { kind = refl; pins = omega arith }, (record { kind = refl; pins = omega arith }, tt)) e;
}

apart : (w : List ℕ) → Some (codes "i_a") ≡ Some w → Some (codes "o_x") ≡ Some w → ⊥
apart w e f = not_same (codes "i_a") (codes "o_x") refl (same_Some (codes "i_a") (codes "o_x") (e ∙ sym f))

two_ports : (m n : ℕ) (w : List ℕ) → slice_get (port_names small) m ≡ Some w → slice_get (port_names small) n ≡ Some w
    → m ≡ n
two_ports zero zero w e f = refl
two_ports zero (suc zero) w e f = absurd (apart w e f)
two_ports zero (suc (suc n)) w e f = absurd cc
two_ports (suc zero) zero w e f = absurd (apart w f e)
two_ports (suc zero) (suc zero) w e f = refl
two_ports (suc zero) (suc (suc n)) w e f = absurd cc
two_ports (suc (suc m)) n w e f = absurd cc

small_names : HasPortNames small
small_names = record {
  each = λ n w e. each_at IsPortName (port_names small) n w (
    record { short = omega arith; bytes = refl; prefix = refl },
    (record { short = omega arith; bytes = refl; prefix = refl }, tt),
  ) e;
  once = two_ports;
}

small_short : HasShortNames small
small_short = record {
  each = λ n w e. each_at (λ w. length w ≤ 68) (port_names small) n w (omega arith, (omega arith, tt)) e;
}

small_stands : ElaboratesTo (emitted small) small
small_stands =
    written_is_read small small_is small_names
    (built_is_short small small_is small_built small_names small_short (omega arith) (omega arith) (omega arith))
