use Rattle.std.proofs.Common.{false}
use Rattle.net_core.specs.declared.gate.Wire.TheVariants.{Const}
use Rattle.frag_compose.proofs.Lists.{bound_more}
use Rattle.frag_compose.proofs.circuit.bind_registers.Goals as goal

pub loop-p-preserved : goal.loop-p-preserved
loop-p-preserved c =
    let known = c.loop-p.invariant in
    bound_more c.args.b.now c.loop-p.b c.bind_register.new.self c.args.wires.now c.loop-p.p c.args.n known.0
    (Const false) (Const false) c.loop-p-test.true c.requires.wires known.1 known.2 c.bind_register.ensures.data_wire
