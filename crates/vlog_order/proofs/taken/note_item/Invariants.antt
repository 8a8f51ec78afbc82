use Rattle.std.proofs.Common.{◌≡◌, drop}
use Rattle.vlog_text.specs.Refusing.{item_target}
use Rattle.vlog_order.proofs.taken.note_item.Given as goal

abbrev pub invariant-loop-n : goal.invariant-loop-n
invariant-loop-n l = item_target (drop l.n l.gates) ≡ item_target (drop l.start l.gates)
