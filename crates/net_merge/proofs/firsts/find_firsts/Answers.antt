use Rattle.std.proofs.Common.{◌+◌, ◌∙◌, sym, subst}
use Rattle.net_merge.specs.inner.Firsts.{AreFirstsOf}
use Rattle.net_merge.proofs.Taking.{first_pushed}
use Rattle.net_merge.proofs.firsts.find_firsts.Goals as goal

pub loop-r-preserved : goal.loop-r-preserved
loop-r-preserved c = (
  c.first_taker-first.ensures.count ∙ c.loop-r.invariant.0,
  c.first_taker-first.ensures.takers,
  subst (AreFirstsOf c.args.registers.now (c.loop-r.r + 1)) (sym c.in_ok-push.ensures.items)
      (first_pushed c.args.registers.now c.loop-r.r c.first_taker-first.result c.loop-r.firsts.items
      c.loop-r.invariant.2 c.first_taker-first.ensures.first),
)
