use Rattle.std.proofs.Common.{arith}
use Rattle.net_tidy.proofs.Shrinking.{shrunk_by}
use Rattle.net_tidy.proofs.shrink.shrink.Goals as goal

pub cut-requires : goal.cut-requires
cut-requires c =
    let few = c.in_ok-gates.ensures.few in
    let low = c.gates.ensures.right.gates_few in
    omega (arith, few, low)

pub returns : goal.returns
returns c =
    shrunk_by c.args.net.now c.in_ok-gates.field-0.gates c.in_ok-shrunk.shrunk.gates c.in_ok-gates.field-0.stands
    c.in_ok-shown.shown c.in_ok-next.next c.in_ok-shrunk.shrunk.shown c.in_ok-shrunk.shrunk.next c.gates.ensures.right
    c.in_ok-gates.ensures c.in_ok-shrunk.ensures c.in_ok-shown.ensures c.in_ok-next.ensures
