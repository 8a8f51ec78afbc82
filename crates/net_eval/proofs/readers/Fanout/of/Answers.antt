use Rattle.std.proofs.Common.{length, ap}
use Rattle.net_eval.specs.Readers.{IsFanout, readers_from}
use Rattle.net_eval.specs.inner.Chains.{HasLists}
use Rattle.net_eval.proofs.Assigning.{ordered_at}
use Rattle.net_eval.proofs.Flattening.{fanout_is, if_ok_map}
use Rattle.net_eval.proofs.readers.Fanout.of.Goals as goal

pub chains_of-requires-clause-ordered : goal.chains_of-requires-clause-ordered
chains_of-requires-clause-ordered c =
    ordered_at c.args.net.now _ c.gates.result.now c.gates.ensures.right
    (ap (λ xs. length xs) c.registers-registers.ensures) c.gates.ensures.gates

pub returns : goal.returns
returns c =
    let r = length c.registers-registers.result.now in
    let gates = c.gates.result.now in
    if_ok_map c.flatten.result (λ fanout. HasLists fanout r (length gates) (λ w. readers_from 0 gates w))
    (IsFanout c.args.net.now)
    (λ fanout h.
    fanout_is c.args.net.now fanout r gates (ap (λ xs. length xs) c.registers-registers.ensures)
    c.gates.ensures.gates h)
    (c.flatten.ensures (length gates) (λ w. readers_from 0 gates w) c.in_ok-chains.ensures)
