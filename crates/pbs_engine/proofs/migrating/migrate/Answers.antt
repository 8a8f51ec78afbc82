use Rattle.pbs_engine.proofs.MigrateLemmas.{not_migrated}
use Rattle.pbs_engine.proofs.migrating.migrate.Goals as goal

pub returns-in-Err : goal.returns-in-Err
returns-in-Err c = not_migrated c.args.text.now c.args.out.now.items c.in-Err.fail c.in-Err.ensures
