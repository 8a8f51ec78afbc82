use Rattle.std.proofs.Common.{List, length, take, drop, ap, ◌∙◌}
use Rattle.net_core.specs.declared.gate.Wire.{Wire}
use Rattle.pbs_ast.specs.Trees.{tree_of}
use Rattle.frag_compose.specs.inner.Gains.{with_registers}
use Rattle.frag_compose.proofs.Composing.{composed}
use Rattle.frag_compose.proofs.circuit.add_circuit.Goals as goal

pub returns : goal.returns
returns c =
    let places = c.args.places in
    let made = c.leaf_wires.new.b in
    composed c.args.b.now c.add_registers.new.b made c.bind_registers.new.b
    (length c.args.b.now.inputs) places c.args.actions (tree_of c.args.tree.now)
    c.in_ok-wires.wires c.in_ok-fires.fires c.requires.fits c.requires.count c.requires.fresh
    c.in_ok-add_registers.ensures c.in_ok-wires.ensures.extends c.in_ok-wires.ensures.wires
    (c.bind_registers.ensures ∙ ap (λ (ws : List Wire). with_registers made (take places ws)) c.as_slice.ensures)
    (c.in_ok-fires.ensures ∙ ap (λ (ws : List Wire). drop places ws) c.as_slice-2.ensures)
