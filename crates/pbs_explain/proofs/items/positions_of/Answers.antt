use Rattle.std.proofs.Common.{◌≡◌, ◌≤◌, ◌+◌, ◌++◌, [], ◌∷◌, ap, arith, length, rules, sym}
use Rattle.std.proofs.lemmas.List.{length_push}
use Rattle.pbs_explain.specs.inner.Checked.{reached}
use Rattle.pbs_explain.proofs.Following.{positions_first, positions_more, position_next}
use Rattle.pbs_explain.proofs.Reached.{reached_within, reached_zero}
use Rattle.pbs_explain.proofs.items.positions_of.Goals as goal

pub loop-c-init : goal.loop-c-init
loop-c-init c =
    let a = c.args in
    let grown : c.push.new.self ≡ 0 ∷ [] = search rules in
    record {
      filled = ap length grown;
      here = sym (reached_zero 0 a.items.now);
      exact = positions_first a.items.now c.push.new.self grown;
    }

pub next_position-from-requires : goal.next_position-from-requires
next_position-from-requires c =
    let a = c.args in
    let here : c.loop-c.from ≡ reached 0 a.items.now c.loop-c.c = c.loop-c.invariant.here in
    let few : a.n ≤ 128 = c.requires.few in
    let within : reached 0 a.items.now c.loop-c.c ≤ a.n =
    reached_within 0 a.items.now a.n c.loop-c.c c.requires.leads (omega (arith, c.loop-c.auto.c-end, c.len-c-end.ensures)) in
    omega arith

pub loop-c-preserved : goal.loop-c-preserved
loop-c-preserved c =
    let a = c.args in
    let l = c.loop-c in
    let to = c.next_position-from.result in
    let grown : c.push-in-loop-c.new.self ≡ l.positions ++ to ∷ [] = search rules in
    let here : to ≡ reached 0 a.items.now (l.c + 1) =
    position_next a.items.now l.c l.from to _ (omega (arith, c.loop-c-test.true, c.len-c-end.ensures)) l.invariant.here
    (rw c.as_slice.ensures at c.next_position-from.ensures) in
    record {
      filled = omega (arith, ap length grown, length_push l.positions to, l.invariant.filled);
      here = here;
      exact = positions_more a.items.now l.positions c.push-in-loop-c.new.self l.c to grown l.invariant.filled here
          l.invariant.exact;
    }
