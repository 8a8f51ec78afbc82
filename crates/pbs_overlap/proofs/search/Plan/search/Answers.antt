use Rattle.std.proofs.Common.{rules, ◌≡◌, ◌<◌, ◌≤◌, ◌∙◌, length}
use Rattle.std.specs.Prelude.{slice_index}
use Rattle.std.proofs.lemmas.Grind.{get_or_default_zero}
use Rattle.pbs_overlap.proofs.Searching.{search_begun, search_next, search_end}
use Rattle.pbs_overlap.proofs.search.Plan.search.Goals as goal

pub loop-next-init : goal.loop-next-init
loop-next-init c = search_begun c.args.self.now c.args.starts.now _ c.begin.new.reached
    (c.in_ok-vec.ensures.items_if_clones_equal (λ y e. e)) c.in_ok-begin.ensures

pub loop-next-preserved : goal.loop-next-preserved
loop-next-preserved c =
    let inside : c.loop-next.next < length c.loop-next.reached.queue.items = search rules in
    let read : c.index.result.now ≡ slice_index c.loop-next.reached.queue.items c.loop-next.next =
    c.index.ensures ∙ get_or_default_zero c.loop-next.reached.queue.items c.loop-next.next c.index.result.now inside in
    search_next c.args.self.now c.args.starts.now c.loop-next.next c.loop-next.reached c.expand.new.reached
    c.loop-next.invariant inside (rw read at c.in_ok-expand.ensures)

pub returns : goal.returns
returns c =
    let ended : length c.loop-next.reached.queue.items ≤ c.loop-next.next = search rules in
    search_end c.args.self.now c.args.starts.now c.loop-next.next c.loop-next.reached c.loop-next.invariant ended
