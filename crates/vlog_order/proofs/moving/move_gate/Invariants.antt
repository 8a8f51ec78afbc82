use Rattle.std.proofs.Common.{◌≡◌, map, take, get_or}
use Rattle.vlog_text.specs.Orders.{renumbered}
use Rattle.vlog_order.proofs.moving.move_gate.Given as goal

abbrev pub invariant-loop-pin : goal.invariant-loop-pin
invariant-loop-pin l = l.pins ≡ map (renumbered (λ n. get_or l.places n 0)) (take l.pin-index l.pin-items)
