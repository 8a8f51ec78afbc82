use Rattle.std.proofs.Common.{◌≡◌, ℕ, List, [], length, sym, ◌∙◌, subst, arith}
use Rattle.net_core.specs.declared.gate.Gate as gate
use Rattle.net_core.specs.Circuits.{Circuit, IsCircuit}
use Rattle.vlog_text.specs.declared.raw.RawName.{RawName}
use Rattle.vlog_text.specs.Words.{repeated}
use Rattle.vlog_order.specs.Named.{AllNamed}
use Rattle.vlog_elaborate.proofs.TextGates.{all_named}
use Rattle.vlog_elaborate.specs.inner.Parts.{ArePlaces}
use Rattle.vlog_elaborate.proofs.Circuit.{unbroken_circuit}
use Rattle.vlog_elaborate.proofs.Placed.{order_few, in_order, are_places}
use Rattle.vlog_elaborate.proofs.Parts.{ports_once, few_inputs, gate_count, names_are, drivers_are, moved_are}
use Rattle.vlog_elaborate.proofs.Parts.{circuit_is}
use Rattle.vlog_elaborate.proofs.assemble.assemble.Goals as goal

pub places-requires-clause-there : goal.places-requires-clause-there
places-requires-clause-there c = λ i n e.
    omega (
      arith,
      c.len.ensures,
      gate_count c.args.raw.now c.args.checked.now.gates c.requires.checked.gates,
      in_order c.args.raw.now c.deref.result.now (c.deref.ensures.value ∙ c.requires.checked.order) i n e,
    )

pub places-requires-clause-few : goal.places-requires-clause-few
places-requires-clause-few c =
    omega (
      arith,
      c.requires.raw.gates_few,
      order_few c.args.raw.now c.deref.result.now (c.deref.ensures.value ∙ c.requires.checked.order),
    )

pub input_names-requires : goal.input_names-requires
input_names-requires c =
    subst (λ (ns : List RawName). repeated [] ns ≡ []) (sym c.as_slice.ensures)
    (ports_once c.args.raw.now c.requires.unbroken)

pub reorder-requires-clause-named : goal.reorder-requires-clause-named
reorder-requires-clause-named c =
    let gates = c.as_slice-3.result.now in
    let are = c.as_slice-3.ensures ∙ c.requires.checked.gates in
    subst (λ (gs : List gate.Gate). AllNamed (length gates) gs) (sym are)
    (all_named c.args.raw.now c.requires.raw (length gates) (gate_count c.args.raw.now gates are))

pub reorder-requires-clause-there : goal.reorder-requires-clause-there
reorder-requires-clause-there c = λ i n e.
    omega (
      arith,
      gate_count c.args.raw.now c.as_slice-3.result.now (c.as_slice-3.ensures ∙ c.requires.checked.gates),
      in_order c.args.raw.now c.deref-3.result.now (c.deref-3.ensures.value ∙ c.requires.checked.order) i n e,
    )

pub reorder-requires-clause-few : goal.reorder-requires-clause-few
reorder-requires-clause-few c =
    omega (
      arith,
      c.requires.raw.gates_few,
      order_few c.args.raw.now c.deref-3.result.now (c.deref-3.ensures.value ∙ c.requires.checked.order),
    )

pub register_wires-requires-clause-few : goal.register_wires-requires-clause-few
register_wires-requires-clause-few c =
    few_inputs c.args.raw.now (unbroken_circuit c.args.raw.now c.requires.raw c.requires.unbroken)

pub register_wires-requires-clause-places : goal.register_wires-requires-clause-places
register_wires-requires-clause-places c =
    subst (λ (ps : List ℕ). ArePlaces c.args.raw.now ps) (sym c.deref-4.ensures.value)
    (are_places c.args.raw.now c.len.result c.deref.result.now c.in_ok-places.places.items
    (c.deref.ensures.value ∙ c.requires.checked.order)
    (c.len.ensures ∙ gate_count c.args.raw.now c.args.checked.now.gates c.requires.checked.gates)
    c.in_ok-places.ensures.long c.in_ok-places.ensures.places)

pub from_parts-requires : goal.from_parts-requires
from_parts-requires c =
    let raw = c.args.raw.now in
    let checked = c.args.checked.now in
    let right = unbroken_circuit raw c.requires.raw c.requires.unbroken in
    let placed : ArePlaces raw c.deref-2.result.now =
    subst (λ (ps : List ℕ). ArePlaces raw ps) (sym c.deref-2.ensures.value)
    (are_places raw c.len.result c.deref.result.now c.in_ok-places.places.items
    (c.deref.ensures.value ∙ c.requires.checked.order)
    (c.len.ensures ∙ gate_count raw checked.gates c.requires.checked.gates)
    c.in_ok-places.ensures.long c.in_ok-places.ensures.places) in
    subst (λ (n : Circuit). IsCircuit n)
    (sym (circuit_is raw c.in_ok-inputs.inputs c.in_ok-gates.gates c.in_ok-registers.registers c.in_ok-outputs.outputs
    (names_are raw checked c.requires.checked c.as_slice.result.now c.in_ok-inputs.inputs c.as_slice.ensures
    c.in_ok-inputs.ensures)
    (moved_are raw checked c.requires.checked c.as_slice-3.result.now c.in_ok-gates.gates c.deref-3.result.now
    (few_inputs raw right) c.as_slice-3.ensures c.deref-3.ensures.value c.in_ok-gates.ensures)
    c.in_ok-registers.ensures
    (drivers_are raw checked c.requires.checked c.as_slice-2.result.now c.deref-2.result.now c.in_ok-outputs.outputs
    c.as_slice-2.ensures placed c.in_ok-outputs.ensures)))
    right

pub returns : goal.returns
returns c =
    let raw = c.args.raw.now in
    let checked = c.args.checked.now in
    let right = unbroken_circuit raw c.requires.raw c.requires.unbroken in
    let placed : ArePlaces raw c.deref-2.result.now =
    subst (λ (ps : List ℕ). ArePlaces raw ps) (sym c.deref-2.ensures.value)
    (are_places raw c.len.result c.deref.result.now c.in_ok-places.places.items
    (c.deref.ensures.value ∙ c.requires.checked.order)
    (c.len.ensures ∙ gate_count raw checked.gates c.requires.checked.gates)
    c.in_ok-places.ensures.long c.in_ok-places.ensures.places) in
    c.from_parts.ensures
    ∙ circuit_is raw c.in_ok-inputs.inputs c.in_ok-gates.gates c.in_ok-registers.registers c.in_ok-outputs.outputs
    (names_are raw checked c.requires.checked c.as_slice.result.now c.in_ok-inputs.inputs c.as_slice.ensures
    c.in_ok-inputs.ensures)
    (moved_are raw checked c.requires.checked c.as_slice-3.result.now c.in_ok-gates.gates c.deref-3.result.now
    (few_inputs raw right) c.as_slice-3.ensures c.deref-3.ensures.value c.in_ok-gates.ensures)
    c.in_ok-registers.ensures
    (drivers_are raw checked c.requires.checked c.as_slice-2.result.now c.deref-2.result.now c.in_ok-outputs.outputs
    c.as_slice-2.ensures placed c.in_ok-outputs.ensures)
