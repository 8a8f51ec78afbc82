use Rattle.std.proofs.Common.{◌≡◌, take}
use Rattle.vlog_text.specs.Orders.{place_in, moved}
use Rattle.std.specs.List.{filter_map}
use Rattle.std.specs.Option.{option_map}
use Rattle.std.specs.Prelude.{slice_get}
use Rattle.vlog_order.proofs.moving.reorder.Given as goal

abbrev pub invariant-loop-gate : goal.invariant-loop-gate
invariant-loop-gate l =
    l.new ≡ filter_map (λ n. option_map (moved (place_in l.order)) (slice_get l.gates n))
    (take l.gate-index l.order)
