use Rattle.std.proofs.Common.{◌≡◌, ◌+◌, [], ◌∷◌, ◌++◌, ◌∙◌, ap, arith, length, rules}
use Rattle.std.proofs.lemmas.List.{length_push}
use Rattle.bool_terms.specs.Terms.{term_of}
use Rattle.pbs_derive.specs.Derivations.{all_hold}
use Rattle.pbs_explain.specs.inner.Checked.{reached}
use Rattle.pbs_explain.proofs.Following.{entry_more}
use Rattle.pbs_explain.proofs.Steps.{throughout_same}
use Rattle.pbs_explain.proofs.items.holds_throughout.Goals as goal

pub loop-c-preserved : goal.loop-c-preserved
loop-c-preserved c =
    let a = c.args in
    let l = c.loop-c in
    let items = a.reading.now.items.now in
    let v = a.reading.now.known.run.now in
    let grown : c.push.new.self ≡ l.list ++ c.throughout-here.result ∷ [] = search rules in
    let told : c.throughout-here.result
    ≡ all_hold (term_of a.term.now) v (reached 0 items l.c) (reached 0 items (l.c + 1)) =
    rw (c.position.ensures, c.position-in-loop-c.ensures) at c.throughout-here.ensures
    ∙ throughout_same v 0 (term_of a.term.now) c.in_ok-truths.truths c.in_ok-truths.ensures (reached 0 items l.c)
    (reached 0 items (l.c + 1))
    (c.requires.follows.within (l.c + 1) (omega (arith, c.loop-c-test.true, c.len-c-end.ensures))) in
    record {
      filled = omega (arith, ap length grown, length_push l.list c.throughout-here.result, l.invariant.filled);
      exact = entry_more l.list c.push.new.self c.throughout-here.result l.c
          (λ k. all_hold (term_of a.term.now) v (reached 0 items k) (reached 0 items (k + 1))) grown
          l.invariant.filled told l.invariant.exact;
    }
