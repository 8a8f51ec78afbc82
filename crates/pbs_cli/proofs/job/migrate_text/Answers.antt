use Rattle.std.proofs.Common.{◌++◌, Err, None, ap, subst, sym, ◌∙◌}
use Rattle.pbs_engine.specs.Migrated.{Migrates}
use Rattle.pbs_engine.specs.declared.fail.EngineFail.TheVariants as fails
use Rattle.pbs_cli.specs.Answers.{Migrated, OnMigration, OnNoMigration}
use Rattle.pbs_cli.proofs.JobLemmas.{text_written, text_cut, text_refused}
use Rattle.pbs_cli.proofs.job.migrate_text.Goals as goal

pub returns-in-Ok-write_all : goal.returns-in-Ok-write_all
returns-in-Ok-write_all g c =
    let made = c.in-Ok.ensures in
    let same = made.3 ∙ ap (λ l. l ++ made.0) c.new-migrated.ensures.items in
    text_written (Migrated c.args.text.now) c.migrate.new.out.items (g.K.Sink.state c.args.out.now)
    (g.K.Sink.state c.write_all.new.sink) _
    (subst (λ l. Migrated c.args.text.now (record { lines = l; refusal = None })) (sym same) (OnMigration made.1 made.2))
    (rw c.as_slice.ensures.value at c.in-Ok-write_all.ensures)

pub returns-in-Ok : goal.returns-in-Ok
returns-in-Ok g c =
    let made = c.in-Ok.ensures in
    let same = made.3 ∙ ap (λ l. l ++ made.0) c.new-migrated.ensures.items in
    text_cut (Migrated c.args.text.now) c.migrate.new.out.items (g.K.Sink.state c.args.out.now)
    (g.K.Sink.state c.write_all.new.sink) _
    (subst (λ l. Migrated c.args.text.now (record { lines = l; refusal = None })) (sym same) (OnMigration made.1 made.2))
    (rw c.as_slice.ensures.value at c.in-Err.ensures)

pub returns-in-Err-Refused : goal.returns-in-Err-Refused
returns-in-Err-Refused g c =
    let not_migrated : Migrates c.args.text.now c.new-migrated.result.items c.migrate.new.out.items
    (Err (fails.Refused c.in-Err-Refused.refusal)) = rw c.in-Err-Refused.field-0-is at c.in-Err-Refused.ensures in
    text_refused (Migrated c.args.text.now) c.in-Err-Refused.refusal (g.K.Sink.state c.args.out.now)
    (OnNoMigration not_migrated.0)
