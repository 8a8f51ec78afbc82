use Rattle.std.proofs.Common.{length, ◌+◌, ◌≤◌, arith}
use Rattle.pbs_ast.specs.Trees.{tree_of}
use Rattle.pbs_ast.specs.Sound.{place_count}
use Rattle.frag_compose.proofs.Leaves.{tree_fits}
use Rattle.frag_compose.proofs.Following.{follows}
use Rattle.frag_compose.proofs.circuit.compose.Goals as goal

pub add_circuit-requires-clause-fits : goal.add_circuit-requires-clause-fits
add_circuit-requires-clause-fits c =
    let main = tree_of c.args.main.now.tree in
    let counted = c.count_places-places.ensures in
    let few : 0 + place_count main ≤ c.count_places-places.result = omega (arith, counted) in
    tree_fits main (length c.args.b.now.inputs) c.count_places-places.result c.args.actions 0
    c.requires.inputs c.args.main.now.sound.counted.places_numbered few c.requires.actions

pub returns-clause-runs : goal.returns-clause-runs
returns-clause-runs c = λ net all.
    follows c.controller_is_right.ensures.registers c.controller_is_right.ensures.fire_bits
    c.args.b.now c.add_circuit.new.b (tree_of c.args.main.now.tree) c.args.actions c.in_ok-fires.fires
    c.args.main.now.sound c.in_ok-fires.ensures net all
