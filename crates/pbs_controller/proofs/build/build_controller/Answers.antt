use Rattle.std.proofs.Common.{◌≡◌, ◌≤◌, ◌+◌, ◌++◌, List, sym, subst, ap, ◌∙◌, length, codes}
use Rattle.pbs_ast.specs.Trees.{tree_of}
use Rattle.net_core.specs.declared.gate.Wire.{Wire}
use Rattle.net_core.specs.Circuits.{Circuit, output_names}
use Rattle.net_core.specs.Building.{HasAll, Keeps, gate_input_pins}
use Rattle.frag_compose.specs.Composes.{Composes, Follows}
use Rattle.pbs_controller.specs.Ports.{ports_of}
use Rattle.pbs_controller.specs.Outputs.{Shows, AddedLast}
use Rattle.pbs_controller.proofs.PortLemmas.{length-outputs}
use Rattle.pbs_controller.proofs.WholeLemmas.{is_controller, has_both, has_later}
use Rattle.pbs_controller.proofs.build.build_controller.Goals as goal

pub add_outputs-requires-clause-there : goal.add_outputs-requires-clause-there
add_outputs-requires-clause-there c =
    let fires = c.in_ok-composed.composed.fires in
    let laid = c.add_levels.new.b in
    let levels = c.in_ok-values.ensures.circuit in
    subst (λ (ws : List Wire). HasAll laid ws) (sym c.in_ok-shown.ensures)
    (has_both laid fires c.in_ok-values.values
    (has_later c.compose.new.b laid fires levels.keeps c.in_ok-composed.ensures.circuit.fires_there)
    levels.wires_there)

pub returns-clause-map : goal.returns-clause-map
returns-clause-map c = c.in_ok-composed.ensures.map

pub returns-clause-net : goal.returns-clause-net
returns-clause-net c =
    let inputs = c.args.inputs.now in
    let actions = c.args.actions.now in
    let levels = c.args.levels.now in
    let plan = c.args.plan.now in
    let main = tree_of c.args.main.now.tree in
    let net = c.add_outputs.new.b in
    let laid = c.add_levels.new.b in
    let fires = c.in_ok-composed.composed.fires in
    let values = c.in_ok-values.values in
    let outputs = c.in_ok-add_outputs.ensures in
    let composed = c.in_ok-composed.ensures in
    let added = c.in_ok-values.ensures in
    let empty = c.new-b.result in
    let finished = c.finished.ensures.netlist in
    let in_names : empty.inputs ≡ ports_of (codes "i_") inputs =
    ap (λ (n : Circuit). n.inputs) c.new-b.ensures ∙ c.in_ok-in_ports.ensures in
    let names : length c.in_ok-out_ports.out_ports ≡ length actions + length plan =
    ap length c.in_ok-out_ports.ensures ∙ length-outputs actions levels
    ∙ ap (λ n. length actions + n) (sym c.requires.planned) in
    let number = c.len.ensures.count in
    is_controller inputs actions levels plan main empty c.compose.new.b laid c.finished.result fires values
    c.fires_decide.ensures
    (record {
      none = ap (λ (n : Circuit). n.gates) c.new-b.ensures;
      bare = ap (λ (n : Circuit). n.registers) c.new-b.ensures;
      circuit = subst (λ m. Composes empty c.compose.new.b main m fires) number composed.circuit;
      runs = λ n keeps. subst (λ m. Follows n fires main m) number (composed.runs n keeps);
      levels = added.circuit;
      level_runs = added.runs;
      keeps = subst (Keeps laid) (sym finished) outputs.keeps;
      registers = ap (λ (n : Circuit). n.registers) finished ∙ outputs.registers;
      gates = ap (λ (n : Circuit). length n.gates) finished
          ∙ (outputs.gates ∙ ap (λ x. length laid.gates + x) names);
      shows = subst (λ n. Shows n (fires ++ values) (length actions + length plan)) (sym finished)
          (subst (λ (ws : List Wire). Shows net ws (length actions + length plan)) c.in_ok-shown.ensures
          (subst (Shows net c.in_ok-shown.shown) names outputs.shows));
      pins = subst (λ (n : Circuit). gate_input_pins n.gates ≤ gate_input_pins laid.gates) (sym finished) outputs.pins;
      last = subst (AddedLast laid) (sym finished) outputs.last;
      right = c.finished.ensures.right;
    })
    c.finished.ensures.built
    (ap (λ (n : Circuit). n.inputs) finished
    ∙ (outputs.inputs ∙ (added.circuit.inputs ∙ (composed.circuit.inputs ∙ in_names))))
    (ap output_names finished ∙ (outputs.names ∙ c.in_ok-out_ports.ensures))
