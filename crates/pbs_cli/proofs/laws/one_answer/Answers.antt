use Rattle.pbs_cli.proofs.OneAnswer.{one_defined}
use Rattle.pbs_cli.proofs.laws.one_answer.Goals as goal

pub returns : goal.returns
returns c = one_defined (record {
  spec = c.one_check.ensures.spec;
  refusal = c.one_check.ensures.refusal;
  apart = c.one_check.ensures.apart;
  map = c.one_map.ensures;
  migration = c.one_migration.ensures.text;
  no_migration = c.one_migration.ensures.refusal;
  migration_apart = c.one_migration.ensures.apart;
  outcome = c.one_outcome.ensures;
  net = c.one_answer.ensures.net;
  bad_net = c.one_answer.ensures.refusal;
  net_apart = c.one_answer.ensures.apart;
  row = c.one_assignment.ensures;
  wired = c.stands_for_circuit.ensures;
})
