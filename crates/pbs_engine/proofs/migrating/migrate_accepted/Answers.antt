use Rattle.std.proofs.Common.{◌∙◌, ◌++◌, ap}
use Rattle.pbs_print.specs.Canonical.{canonical}
use Rattle.pbs_print.specs.Written.{of_version_2}
use Rattle.pbs_engine.proofs.MigrateLemmas.{migration_of}
use Rattle.pbs_engine.proofs.migrating.migrate_accepted.Goals as goal

pub append_migrated-requires : goal.append_migrated-requires
append_migrated-requires c =
    migration_of c.args.text.now c.as_slice.result.now c.args.accepted c.requires
    (c.as_slice.ensures.value
    ∙ (c.in-Ok.ensures.ok
    ∙ ap (λ l. l ++ canonical (of_version_2 c.args.accepted.spec)) c.new-migrated.ensures.items))
