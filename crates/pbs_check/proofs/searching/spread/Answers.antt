use Rattle.std.proofs.Common.{refl, arith}
use Rattle.pbs_check.proofs.SearchLemmas.{search_start, search_step, search_end}
use Rattle.pbs_check.proofs.GraphLemmas.{get_at}
use Rattle.pbs_check.proofs.searching.spread.Goals as goal

pub loop-next-init : goal.loop-next-init
loop-next-init c =
    search_start c.args.lists.now c.args.labels.now c.args.label c.args.root c.args.marks.items _ c.mark.new.search
    refl c.new.ensures.items c.requires.there c.requires.size c.requires.none c.in_ok-mark.ensures.grows
    c.in_ok-mark.ensures.marked

pub loop-next-preserved : goal.loop-next-preserved
loop-next-preserved c =
    let reached = c.loop-next.search.reached in let x = c.index-found.result.now in
    search_step c.args.lists.now c.args.labels.now c.args.label c.args.root c.args.marks.items c.loop-next.next x
    c.loop-next.search c.visit.new.search
    (get_at reached.items c.loop-next.next x (omega (arith, c.loop-next-test.true, c.len.ensures, reached.ok))
    c.index-found.ensures)
    c.loop-next.invariant c.in_ok-visit.ensures.grows c.in_ok-visit.ensures.marked

pub returns : goal.returns
returns c =
    search_end c.args.lists.now c.args.labels.now c.args.label c.args.root c.args.marks.items c.loop-next.next
    c.loop-next.search (omega (arith, c.loop-next-test.false)) c.loop-next.invariant
