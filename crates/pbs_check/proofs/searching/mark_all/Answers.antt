use Rattle.std.proofs.Common.{get_or}
use Rattle.pbs_check.proofs.UserLemmas.{copied_at}
use Rattle.pbs_check.proofs.SearchLemmas.{marks_none, marks_step, marks_all}
use Rattle.pbs_check.proofs.searching.mark_all.Goals as goal

pub loop-number-init : goal.loop-number-init
loop-number-init c = marks_none c.args.root c.args.list.now c.args.labels.now c.args.label c.args.search.now

pub loop-number-preserved : goal.loop-number-preserved
loop-number-preserved c =
    let list = c.args.list.now in let i = c.loop-number.number-index in
    marks_step c.args.root list c.args.labels.now c.args.label i (get_or list i 0) c.args.search.now
    c.loop-number.search c.mark_labelled.new.search c.loop-number-test.true
    (copied_at list i 0 c.loop-number-test.true) c.loop-number.invariant c.in_ok-mark_labelled.ensures.grows
    c.in_ok-mark_labelled.ensures.marked

pub returns-clause-marked : goal.returns-clause-marked
returns-clause-marked c =
    marks_all c.args.root c.args.list.now c.args.labels.now c.args.label c.loop-number.number-index c.args.search.now
    c.loop-number.search c.loop-number-test.false c.loop-number.invariant
