use Rattle.pbs_engine.proofs.MigrateLemmas.{one_migration, one_refusal, migration_apart}
use Rattle.pbs_engine.proofs.laws.one_migration.Goals as goal

pub returns : goal.returns
returns c = record {
  text = one_migration c.one_check.ensures.spec;
  refusal = one_refusal c.one_check.ensures.refusal c.one_check.ensures.apart;
  apart = migration_apart c.one_check.ensures.spec c.one_check.ensures.apart;
}
