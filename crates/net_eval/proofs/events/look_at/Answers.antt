use Rattle.std.proofs.Common.{refl}
use Rattle.net_eval.proofs.Agreeing.{some_at}
use Rattle.net_eval.proofs.Assigning.{ordered_at}
use Rattle.net_eval.proofs.Changing.{look_marked}
use Rattle.net_eval.proofs.Waking.{unequal_turned}
use Rattle.net_eval.proofs.events.look_at.Goals as goal

pub returns : goal.returns
returns c = λ before count marked looks.
    let net = c.args.net.now in
    let row = c.args.row.now in
    let here = some_at net.gates c.args.n c.requires.there in
    look_marked net.gates before row.registers.now row.reset row.inputs c.args.gates.now c.args.n count
    c.gate_now-output.result _ here.0 c.args.words.now c.unmark.new.words c.wake_if.new.words
    (ordered_at net _ net.gates c.requires.circuit c.requires.registers refl) c.requires.gates c.requires.there here.1
    (c.gate_now-output.ensures here.0 here.1) (unequal_turned _ _) c.unmark.ensures c.wake_if.ensures marked looks
