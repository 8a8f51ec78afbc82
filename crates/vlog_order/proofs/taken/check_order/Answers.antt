use Rattle.std.proofs.Common.{List, Bool, ap, ◌∙◌}
use Rattle.vlog_order.specs.inner.Queues.{marked}
use Rattle.vlog_order.proofs.taken.check_order.Goals as goal

pub returns : goal.returns
returns c =
    c.check_taken.ensures c.args.order.now
    (λ n. ap (λ (bits : List Bool). marked bits n) c.deref.ensures.value ∙ c.in_ok-taken.ensures.taken n)
