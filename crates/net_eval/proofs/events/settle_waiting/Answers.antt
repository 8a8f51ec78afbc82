use Rattle.std.proofs.Common.{◌<◌, ◌-◌, ◌+◌, length, sym, ap, ◌∙◌, arith}
use Rattle.std.proofs.lemmas.List.{take_all}
use Rattle.std.proofs.lemmas.Option.{slice_get_within}
use Rattle.net_eval.specs.Counts.{changed_count}
use Rattle.net_eval.specs.States.{begun_row}
use Rattle.net_eval.proofs.Changing.{look_ahead}
use Rattle.net_eval.proofs.events.settle_waiting.Goals as goal

pub loop-n-init : goal.loop-n-init
loop-n-init c = record {
  few = omega arith;
  marked = λ h. c.next_marked-n.ensures.found (omega arith);
  looks = λ before was start.
      let n = c.next_marked-n.result in
      look_ahead c.args.net.now.gates before (begun_row c.args.row.now c.args.gates.now) c.args.words.now 0 n n 0
      (omega arith) was c.next_marked-n.ensures.none start;
}

pub loop-n-preserved : goal.loop-n-preserved
loop-n-preserved c = record {
  few = let behind = c.next_marked-n-in-loop-n.ensures.behind in let low = c.loop-n.invariant.few in omega arith;
  marked = λ h. c.next_marked-n-in-loop-n.ensures.found (omega arith);
  looks = λ before was start.
      let n = c.loop-n.n in
      let m = c.next_marked-n-in-loop-n.result in
      let behind = c.next_marked-n-in-loop-n.ensures.behind in
      let low : n < length c.args.net.now.gates = omega arith in
      look_ahead c.args.net.now.gates before (begun_row c.args.row.now c.look_at.new.gates) c.look_at.new.words (n + 1)
      m (m - (n + 1)) (c.loop-n.count + 1) (omega arith) was c.next_marked-n-in-loop-n.ensures.none
      (c.look_at.ensures before c.loop-n.count (c.loop-n.invariant.marked low)
      (c.loop-n.invariant.looks before was start));
}

pub returns-clause-row : goal.returns-clause-row
returns-clause-row c = λ before was start. record {
  each = λ k g e.
      let within = slice_get_within c.args.net.now.gates k g e in
      (c.loop-n.invariant.looks before was start).below k g (omega arith) e;
}

pub returns-clause-clear : goal.returns-clause-clear
returns-clause-clear c = λ before was start. record {
  each = λ k h.
      (c.loop-n.invariant.looks before was start).clear k (omega arith) h;
}

pub returns-clause-count : goal.returns-clause-count
returns-clause-count c = λ before was start.
    let gates = c.args.net.now.gates in
    sym (ap (λ gs. changed_count before (begun_row c.args.row.now c.loop-n.gates) gs)
    (sym (take_all c.loop-n.n gates (omega arith))) ∙ (c.loop-n.invariant.looks before was start).counted)
