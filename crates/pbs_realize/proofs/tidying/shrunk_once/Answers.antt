use Rattle.pbs_realize.proofs.ShrinkLemmas.{merged_shrinks}
use Rattle.pbs_realize.proofs.tidying.shrunk_once.Goals as goal

pub returns : goal.returns
returns c =
    merged_shrinks c.args.net.now c.in_ok-merged.merged c.tidy.result c.in_ok-merged.ensures c.tidy.ensures.follows
    c.tidy.ensures.tidy c.tidy.ensures.built
