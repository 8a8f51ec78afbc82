use Rattle.std.proofs.Common.{refl, arith}
use Rattle.net_eval.specs.inner.Marks.{Looks}
use Rattle.net_eval.specs.States.{begun_row}
use Rattle.net_eval.proofs.events.resettle.Goals as goal

pub returns : goal.returns
returns c =
    let gates = c.args.net.now.gates in
    let before = begun_row c.args.before.now c.args.gates.now in
    let now = begun_row c.args.row.now c.args.gates.now in
    let start : Looks gates before now c.wake_changed.new.words 0 0 = record {
      below = λ k g h e. absurd (omega arith);
      above = λ k h. refl;
      marked = λ k g h e. (c.wake_changed.ensures c.args.gates.now).each k g e;
      clear = λ k h l. absurd (omega arith);
      counted = refl;
    } in
    record {
      row = c.settle_waiting.ensures.row before c.requires.before start;
      clear = c.settle_waiting.ensures.clear before c.requires.before start;
      count = c.settle_waiting.ensures.count before c.requires.before start;
    }
