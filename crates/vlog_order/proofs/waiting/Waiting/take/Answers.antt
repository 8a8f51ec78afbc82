use Rattle.std.proofs.Common.{[], ap, ◌∙◌}
use Rattle.vlog_order.proofs.WaitLists.{items_set}
use Rattle.vlog_order.proofs.waiting.Waiting.take.Goals as goal

pub returns-clause-others : goal.returns-clause-others
returns-clause-others c =
    items_set c.self.inside.lists.items c.args.self.now c.args.gate c.replace.new.dest [] c.self.view_is
    (ap (λ v. v.items) c.replace.ensures.after ∙ c.new.ensures.items)
