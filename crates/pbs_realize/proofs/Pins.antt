-- Pins that are written with the name of a port, where no gate reads an output: those that are inputs.
use Rattle.std.proofs.Common.{◌≡◌, ◌≢◌, ℕ, zero, suc, ◌+◌, List, [], ◌∷◌, Bool, true, false, Some, None, refl}
use Rattle.std.proofs.Common.{sym, ap, arith, nat_eq, cond}
use Rattle.std.specs.Prelude.{slice_get}
use Rattle.std.specs.List.{find}
use Rattle.std.proofs.lemmas.Bool.{eqb-true}
use Rattle.net_core.specs.declared.gate.Wire.{Wire}
use Rattle.net_core.specs.declared.gate.Wire.TheVariants as wire
use Rattle.net_core.specs.declared.gate.Gate as gate
use Rattle.net_core.specs.declared.netlist.Output.{Output}
use Rattle.net_core.specs.Circuits.{Circuit}
use Rattle.net_core.specs.Building.{input_pin, input_pins, gate_input_pins}
use Rattle.vlog_write.specs.NamedPins.{output_pin, named_pin, list_named_pins, gate_named_pins, named_pins}
use Rattle.net_core.specs.Unread.{ReadsNone, AreUnread}

none_driven : (outputs : List Output) (g : ℕ)
    → ((n : ℕ) (o : Output) → slice_get outputs n ≡ Some o → wire.Gate g ≢ wire.Gate o.gate)
    → find (λ (o : Output). nat_eq o.gate g) outputs ≡ None
none_driven [] g h = refl
none_driven (o ∷ os) g h =
    by (nat_eq o.gate g) refl (none_driven os g (λ n p at. h (suc n) p at))
  where
    by : (b : Bool) → nat_eq o.gate g ≡ b → find (λ (o : Output). nat_eq o.gate g) os ≡ None
        → cond b (Some o) (find (λ (o : Output). nat_eq o.gate g) os) ≡ None
    by true e more = absurd (h zero o refl (ap wire.Gate (sym (eqb-true o.gate g e))))
    by false e more = more

module _ (c : Circuit) where
  pin_named : (w : Wire) → ReadsNone c.outputs w → named_pin c w ≡ input_pin w
  pin_named (wire.Const b) h = refl
  pin_named wire.Reset h = refl
  pin_named (wire.Input n) h = refl
  pin_named (wire.Reg n) h = refl
  pin_named (wire.Gate g) h = ap output_pin (none_driven c.outputs g h.each)

  pins_named : (ws : List Wire) → ((k : ℕ) (w : Wire) → slice_get ws k ≡ Some w → ReadsNone c.outputs w)
      → list_named_pins c ws ≡ input_pins ws
  pins_named [] h = refl
  pins_named (w ∷ ws) h =
      let here = pin_named w (h zero w refl) in
      let more = pins_named ws (λ k v at. h (suc k) v at) in
      omega (arith, here, more)

  gates_named : (gs : List gate.Gate)
      → ((n : ℕ) (g : gate.Gate) → slice_get gs n ≡ Some g → (k : ℕ) (w : Wire) → slice_get g.pins k ≡ Some w
      → ReadsNone c.outputs w)
      → gate_named_pins c gs ≡ gate_input_pins gs
  gates_named [] h = refl
  gates_named (g ∷ gs) h =
      let here = pins_named g.pins (h zero g refl) in
      let more = gates_named gs (λ n x at. h (suc n) x at) in
      omega (arith, here, more)

  pub pins_are : AreUnread c → named_pins c ≡ gate_input_pins c.gates + input_pins c.registers
  pins_are h =
      let gates = gates_named c.gates h.pins in
      let wires = pins_named c.registers h.data_wires in
      omega (arith, gates, wires)
