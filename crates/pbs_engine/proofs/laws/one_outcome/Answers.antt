use Rattle.pbs_engine.proofs.OutcomeLaws.{one_gives}
use Rattle.pbs_engine.proofs.laws.one_outcome.Goals as goal

pub returns : goal.returns
returns c = one_gives (record {
  spec = c.one_check.ensures.spec;
  refusal = c.one_check.ensures.refusal;
  apart = c.one_check.ensures.apart;
})
