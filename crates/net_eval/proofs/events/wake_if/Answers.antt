use Rattle.std.proofs.Common.{Bool, ◌&&◌, ap, sym, subst}
use Rattle.net_core.specs.declared.gate.Wire.{Wire}
use Rattle.net_eval.specs.Readers.{is_wire}
use Rattle.net_eval.specs.inner.Marks.{Wakes}
use Rattle.net_eval.proofs.Changing.{wakes_none}
use Rattle.net_eval.proofs.events.wake_if.Goals as goal

pub returns-then-changed : goal.returns-then-changed
returns-then-changed c =
    subst (λ (b : Bool).
    Wakes c.args.net.now.gates c.args.words.now c.wake.new.words (λ (w : Wire). b && is_wire c.args.wire w))
    (sym c.if-changed.true) c.wake.ensures

pub returns-else-changed : goal.returns-else-changed
returns-else-changed c =
    wakes_none c.args.net.now.gates c.args.words.now (λ (w : Wire). c.args.changed && is_wire c.args.wire w)
    (λ w. ap (λ b. b && is_wire c.args.wire w) c.if-changed.false)
