use Rattle.std.proofs.Common.{sym, ap, arith, ◌-◌, ◌+◌, ◌∙◌, ◌<◌, ◌≤◌, inl, Some}
use Rattle.std.specs.Prelude.{None}
use Rattle.std.proofs.lemmas.Bool.{and_from, both_ways}
use Rattle.pbs_derive.specs.Derivations.{some_after}
use Rattle.pbs_covers.specs.Grids.{at, trips_at}
use Rattle.pbs_derive.proofs.Positions.{after_from, after_to, false_from}
use Rattle.pbs_explain.specs.Firsts.{least_after}
use Rattle.pbs_explain.proofs.Walks.{first_is, if_no, if_yes}
use Rattle.pbs_explain.proofs.known.first_trip.Goals as goal

pub returns-then-at-2 : goal.returns-then-at-2
returns-then-at-2 c =
    let a = c.args in let m = c.loop-m.m in
    let test = trips_at a.n a.trap.now a.alive.now a.i in
    let low : a.i + 1 ≤ m = c.loop-m.auto.m in
    let passes = and_from (at a.n a.trap.now a.i m) (at a.n a.alive.now a.i (m - 1))
    (sym c.at.ensures ∙ c.if-at.true) (sym c.at-then-at.ensures ∙ c.if-at-2.true) in
    let found = after_from a.i a.j test m (omega arith) (omega arith) passes in
    sym (if_yes (some_after a.i a.j test) (Some (least_after a.i a.j test)) None found
    ∙ ap Some (first_is (a.j - (a.i + 1)) (a.i + 1) test m low (omega arith)
    (λ p q r. c.loop-m.invariant p (omega arith) r) (inl passes)))

pub returns : goal.returns
returns c =
    let a = c.args in
    let test = trips_at a.n a.trap.now a.alive.now a.i in
    sym (if_no (some_after a.i a.j test) (Some (least_after a.i a.j test)) None
    (false_from _ (λ e.
    let w = after_to a.i a.j test e in
    let low : a.i < w.0 = w.1 in
    let high : w.0 ≤ a.j = w.2 in
    both_ways _ (c.loop-m.invariant w.0 low (omega arith)) w.3)))
