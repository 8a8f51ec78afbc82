use Rattle.trace_text.proofs.HeldLemmas.{written_through}
use Rattle.trace_text.proofs.held.Held.write.Goals as goal

pub returns : goal.returns
returns g c = written_through _ _ _ _ _ _ _ _ c.in-Ok.ensures.writes c.in-Ok.ensures.empty c.write_all.ensures
