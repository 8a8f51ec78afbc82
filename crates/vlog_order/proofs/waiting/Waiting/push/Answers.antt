use Rattle.std.proofs.Common.{[], ◌∷◌, ◌++◌, ap, ◌∙◌}
use Rattle.std.specs.Prelude.{slice_index_or}
use Rattle.vlog_order.proofs.WaitLists.{items_set, items_at}
use Rattle.vlog_order.proofs.waiting.Waiting.push.Goals as goal

pub returns : goal.returns
returns c =
    let old = items_at c.self.inside.lists.items c.args.self.now c.args.gate c.index_mut.result.now c.self.view_is
    c.requires c.index_mut.ensures.value in
    items_set c.self.inside.lists.items c.args.self.now c.args.gate c.push.new.self
    (slice_index_or c.args.self.now c.args.gate [] ++ c.args.waiter ∷ []) c.self.view_is
    (c.in_ok-push.ensures.items ∙ ap (λ xs. xs ++ c.args.waiter ∷ []) old)
