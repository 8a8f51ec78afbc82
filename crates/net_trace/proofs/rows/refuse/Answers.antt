use Rattle.std.proofs.Common.{refl}
use Rattle.net_trace.proofs.rows.refuse.Goals as goal

pub returns-in-Ok-clause-refuses : goal.returns-in-Ok-clause-refuses
returns-in-Ok-clause-refuses g c = λ net before entries shown. (refl, c.in-Ok.ensures.whole net before entries shown)
