-- The circuit of a raw netlist that breaks no rule.
use Rattle.std.proofs.Common.{◌≡◌, ℕ, ◌<◌, true, List, length, map, Option, Some, None, refl, sym, ap, ◌∙◌, subst}
use Rattle.std.proofs.Common.{arith}
use Rattle.std.specs.Prelude.{slice_get}
use Rattle.std.specs.Option.{option_map}
use Rattle.std.proofs.lemmas.List.{length-map}
use Rattle.std.proofs.lemmas.Option.{same_Some}
use Rattle.net_core.specs.declared.gate.Gate as gate
use Rattle.net_core.specs.declared.netlist.Output.{Output}
use Rattle.net_core.specs.Circuits.{IsCircuit, FitsAfter, AreOutputs, HasItsPins, IsThere}
use Rattle.vlog_text.specs.declared.raw.RawName.{RawName}
use Rattle.vlog_text.specs.declared.raw.RawGate.{RawGate}
use Rattle.vlog_text.specs.declared.raw.RawNetlist.{RawNetlist}
use Rattle.vlog_text.specs.declared.raw.RawPin.{RawPin}
use Rattle.vlog_text.specs.Raw.{IsRaw}
use Rattle.vlog_text.specs.Words.{is_named, gate_targets}
use Rattle.vlog_text.specs.Orders.{place_in, renumbered, moved, reordered}
use Rattle.vlog_text.specs.Standing.{net_of, inputs, outputs, registers, is_output, is_declared, pin_wire, resolved}
use Rattle.vlog_text.specs.Standing.{text_gates, the_order, register_wire, output_of}
use Rattle.vlog_text.specs.Refusing.{first_broken}
use Rattle.vlog_order.proofs.Placing.{reordered_earlier}
use Rattle.vlog_elaborate.proofs.NameLists.{map_at, filter_map_has, Differ, differ_filter, differ_apart}
use Rattle.vlog_elaborate.proofs.Unbroken.{Unbroken, unbroken_has}
use Rattle.vlog_elaborate.proofs.Counts.{few_inputs, few_outputs, few_registers}
use Rattle.vlog_elaborate.proofs.Wired.{input_count, register_count, gate_count, gates_short, driver_there}
use Rattle.vlog_elaborate.proofs.Wired.{drivers_apart}
use Rattle.vlog_elaborate.proofs.Wired.{pin_there}
use Rattle.vlog_elaborate.proofs.Wired.{register_there, output_driven}

module _ (raw : RawNetlist) (r : IsRaw raw) (u : Unbroken raw) where
  -- the raw gate that a gate in the order stands for
  record FromGate (g : gate.Gate) : Type 0 where
    pub from : RawGate
    pub place : ℕ
    pub at : slice_get raw.gates place ≡ Some from
    pub same : g ≡ moved (place_in (the_order raw)) (resolved raw from)

  from_gate : (n : ℕ) (g : gate.Gate) → slice_get (reordered (text_gates raw) (the_order raw)) n ≡ Some g → FromGate g
  from_gate n g at =
      let k = filter_map_has (λ n. option_map (moved (place_in (the_order raw))) (slice_get (text_gates raw) n))
      (the_order raw) g (record { place = n; is = at }) in
      go k.0 (slice_get (text_gates raw) k.0) refl k.2
    where
      go : (k : ℕ) (o : Option gate.Gate) → slice_get (text_gates raw) k ≡ o
          → option_map (moved (place_in (the_order raw))) o ≡ Some g → FromGate g
      go k None e h = cc
      go k (Some x) e h =
          let f = map_at (resolved raw) raw.gates k x e in
          record {
            from = f.0;
            place = k;
            at = f.1;
            same = sym (same_Some (moved (place_in (the_order raw)) x) g h) ∙ ap (moved (place_in (the_order raw))) f.2;
          }

  gate_fits : (n : ℕ) (g : gate.Gate) → slice_get (reordered (text_gates raw) (the_order raw)) n ≡ Some g
      → FitsAfter (input_count raw) (register_count raw) n g
  gate_fits n g at =
      let f = from_gate n g at in
      record {
        there = record {
          each = λ i w e.
              let new = map_at (renumbered (place_in (the_order raw))) (map (pin_wire raw) f.from.pins) i w
              (subst (λ (x : gate.Gate). slice_get x.pins i ≡ Some w) f.same e) in
              let old = map_at (pin_wire raw) f.from.pins i new.0 new.1 in
              pin_there raw r u n old.0 w (new.2 ∙ ap (renumbered (place_in (the_order raw))) old.2)
              (λ m gate. (reordered_earlier (text_gates raw)).each n g i m at (e ∙ ap (λ v. Some v) gate));
        };
        count = subst (λ (x : gate.Gate). HasItsPins x.kind (length x.pins)) (sym f.same)
            (subst (λ n. HasItsPins f.from.kind n) (sym (long f.from.pins)) (r.gates_fit f.place f.from f.at).count);
      }
    where
      long : (pins : List RawPin)
          → length (map (renumbered (place_in (the_order raw))) (map (pin_wire raw) pins)) ≡ length pins
      long pins =
          length-map (map (pin_wire raw) pins) (renumbered (place_in (the_order raw))) ∙ length-map pins (pin_wire raw)

  output_is : (n : ℕ) (o : Output) → slice_get (map (output_of raw) (outputs raw)) n ≡ Some o
      → (x : RawName) × (slice_get (outputs raw) n ≡ Some x) × (o ≡ output_of raw x)
  output_is n o at = map_at (output_of raw) (outputs raw) n o at

  driven : (n : ℕ) (x : RawName) → slice_get (outputs raw) n ≡ Some x → is_named (gate_targets raw) x.word ≡ true
  driven n x at = output_driven raw r u x (record { place = n; is = at })

  names_differ : Differ (λ (n : RawName). n.word) (outputs raw)
  names_differ =
      differ_filter (λ (n : RawName). n.word) (λ (n : RawName). is_declared raw is_output n.word) raw.ports u.ports_once

  outputs_are : AreOutputs (gate_count raw) (map (output_of raw) (outputs raw))
  outputs_are = record {
    there = λ n o at.
        let x = output_is n o at in
        subst (λ (y : Output). y.gate < gate_count raw) (sym x.2) (driver_there raw r u x.0.word (driven n x.0 x.1));
    names_once = λ m n o p at at' e.
        let x = output_is m o at in
        let y = output_is n p at' in
        differ_apart (λ (n : RawName). n.word) (outputs raw) names_differ m n x.0 y.0 x.1 y.1
        (ap (λ (z : Output). z.name) (sym x.2) ∙ e ∙ ap (λ (z : Output). z.name) y.2);
    gates_once = λ m n o p at at' e.
        let x = output_is m o at in
        let y = output_is n p at' in
        differ_apart (λ (n : RawName). n.word) (outputs raw) names_differ m n x.0 y.0 x.1 y.1
        (drivers_apart raw r u x.0.word y.0.word (driven m x.0 x.1) (driven n y.0 y.1)
        (ap (λ (z : Output). z.gate) (sym x.2) ∙ e ∙ ap (λ (z : Output). z.gate) y.2));
  }

  is_circuit : IsCircuit (net_of raw)
  is_circuit = record {
    inputs_few = omega (arith, few_inputs raw u, length-map (inputs raw) (λ (n : RawName). n.word));
    gates_few = omega (arith, gates_short raw, r.gates_few);
    registers_few = omega (arith, few_registers raw u, r.regs_few, length-map (registers raw) (register_wire raw));
    outputs_few = omega (arith, few_outputs raw u, length-map (outputs raw) (output_of raw));
    gates_fit = gate_fits;
    data_there = record {
      each = λ n w at.
          let x = map_at (register_wire raw) (registers raw) n w at in
          subst (λ v. IsThere (input_count raw) (register_count raw) (gate_count raw) v) (sym x.2)
          (register_there raw r u x.0);
    };
    outputs_right = outputs_are;
  }

pub unbroken_circuit : (raw : RawNetlist) → IsRaw raw → first_broken raw ≡ None → IsCircuit (net_of raw)
unbroken_circuit raw r h = is_circuit raw r (unbroken_has raw h)
