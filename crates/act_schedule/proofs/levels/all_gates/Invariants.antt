use Rattle.std.proofs.Common.{◌*◌, take}
use Rattle.net_core.specs.Rows.{value}
use Rattle.net_core.specs.Circuits.{wire_at}
use Rattle.net_core.specs.Building.{Extends, Means, input_pins}
use Rattle.act_schedule.specs.Levels.{after_actions}
use Rattle.act_schedule.specs.inner.Adding.{listed_below}
use Rattle.act_schedule.proofs.levels.all_gates.Given as goal

abbrev pub invariant-loop-a : goal.invariant-loop-a
invariant-loop-a l = record {
  extends : Extends l.fn.b l.b (2 * listed_below l.sets l.a) (input_pins (take l.a l.fires));
  means : Means l.b l.wire (λ row.
      after_actions l.sets (λ a. value row (wire_at l.fires a)) (value row l.fn.kept) l.a);
}
