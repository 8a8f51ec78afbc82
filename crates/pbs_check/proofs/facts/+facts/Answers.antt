use Rattle.std.proofs.Common.{sym, ◌∙◌}
use Rattle.pbs_check.specs.inner.Facts.{known_of}
use Rattle.pbs_check.proofs.FactLemmas.{after_step, either_step, seq_facts, choice_facts}
use Rattle.pbs_check.proofs.facts.+facts.Goals as goal

pub all_facts-loop-item-preserved : goal.all_facts-loop-item-preserved
all_facts-loop-item-preserved t c =
    after_step (known_of c.args.known.now) c.as_slice-item-items.result.now c.loop-item.item-index c.item-item.result
    c.loop-item.facts c.after-facts.result c.expr_facts.result
    c.loop-item-test.true c.item-item.is c.loop-item.invariant c.expr_facts.ensures c.after-facts.ensures

pub any_facts-loop-item-preserved : goal.any_facts-loop-item-preserved
any_facts-loop-item-preserved t c =
    either_step (known_of c.args.known.now) c.as_slice-item-items.result.now c.loop-item.item-index c.item-item.result
    c.loop-item.facts c.either-facts.result c.expr_facts.result
    c.loop-item-test.true c.item-item.is c.loop-item.invariant c.expr_facts.ensures c.either-facts.ensures

pub expr_facts-returns-in-Seq : goal.expr_facts-returns-in-Seq
expr_facts-returns-in-Seq t c = c.all_facts.ensures
    ∙ sym (seq_facts (known_of c.args.known.now) c.args.expr.now c.in-Seq.items c.in-Seq.is)

pub expr_facts-returns-in-Choice : goal.expr_facts-returns-in-Choice
expr_facts-returns-in-Choice t c = c.choice_facts.ensures
    ∙ sym (choice_facts (known_of c.args.known.now) c.args.expr.now c.in-Choice.items c.in-Choice.is)
