use Rattle.net_tidy.proofs.Reducing.{makes_reduced}
use Rattle.net_tidy.proofs.pool.Pool.join.Goals as goal

pub returns-clause-makes : goal.returns-clause-makes
returns-clause-makes c =
    makes_reduced c.join_reduced.result c.args.self.now c.join_reduced.new.self c.args.j c.args.a c.args.b
    c.reduced-first.result c.reduced-second.result c.reduced-first.ensures.meaning c.reduced-second.ensures.meaning
    c.reduced-first.ensures.there c.reduced-second.ensures.there c.join_reduced.ensures.makes
