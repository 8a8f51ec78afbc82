use Rattle.std.proofs.Common.{◌+◌, drop, ap, sym, ◌∙◌}
use Rattle.pbs_check.specs.Least.{least_by}
use Rattle.pbs_check.specs.Using.{leaves}
use Rattle.pbs_check.specs.inner.Walking.{leaf_broken, all_leaves}
use Rattle.pbs_check.proofs.LeastLemmas.{least_step}
use Rattle.pbs_check.proofs.WalkLemmas.{leaves_at, all_leaves_of, any_leaves_of}
use Rattle.pbs_check.proofs.uses.+term.Goals as goal

pub items_broken-loop-item-preserved : goal.items_broken-loop-item-preserved
items_broken-loop-item-preserved t c =
    let items = c.as_slice-item-items.result.now in let i = c.loop-item.item-index in let f = leaf_broken c.args.look
    c.args.tables.now c.args.inputs.now in
    least_step f (least_by f (all_leaves items)) c.term_broken.result c.loop-item.found c.least_of-found.result
    (all_leaves (drop i items)) (leaves c.item-item.result) (all_leaves (drop (i + 1) items))
    (leaves_at items i c.item-item.result c.loop-item-test.true c.item-item.is) c.loop-item.invariant
    c.term_broken.ensures c.least_of-found.ensures

pub term_broken-returns-in-All : goal.term_broken-returns-in-All
term_broken-returns-in-All t c =
    c.items_broken.ensures ∙ ap (least_by (leaf_broken c.args.look c.args.tables.now c.args.inputs.now))
    (sym (all_leaves_of c.args.term.now c.in-All.items c.in-All.is))

pub term_broken-returns-in-Any : goal.term_broken-returns-in-Any
term_broken-returns-in-Any t c =
    c.items_broken-in-Any.ensures ∙ ap (least_by (leaf_broken c.args.look c.args.tables.now c.args.inputs.now))
    (sym (any_leaves_of c.args.term.now c.in-Any.items c.in-Any.is))
