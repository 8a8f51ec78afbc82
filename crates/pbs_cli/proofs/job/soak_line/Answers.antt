use Rattle.std.proofs.Common.{◌++◌, Err, None, ap, subst, sym, ◌∙◌}
use Rattle.pbs_engine.specs.Soaked.{Soaks, soak_counts}
use Rattle.soak_run.specs.Soaks.{soak_line}
use Rattle.pbs_engine.specs.declared.fail.EngineFail.TheVariants as fails
use Rattle.pbs_cli.specs.Answers.{Soaked, OnSoak, OnNoSoak}
use Rattle.pbs_cli.proofs.JobLemmas.{text_written, text_cut, text_refused}
use Rattle.pbs_cli.proofs.job.soak_line.Goals as goal

pub returns-in-Ok-write_all : goal.returns-in-Ok-write_all
returns-in-Ok-write_all g c =
    let made = c.in-Ok.ensures in
    let same = made.2 ∙ ap (λ l. l ++ soak_line c.args.n (soak_counts made.0 c.args.n)) c.new-line.ensures.items in
    text_written (Soaked c.args.n) c.soak.new.out.items (g.K.Sink.state c.args.out.now)
    (g.K.Sink.state c.write_all.new.sink) _
    (subst (λ l. Soaked c.args.n (record { lines = l; refusal = None })) (sym same) (OnSoak made.0 made.1))
    (rw c.as_slice.ensures.value at c.in-Ok-write_all.ensures)

pub returns-in-Ok : goal.returns-in-Ok
returns-in-Ok g c =
    let made = c.in-Ok.ensures in
    let same = made.2 ∙ ap (λ l. l ++ soak_line c.args.n (soak_counts made.0 c.args.n)) c.new-line.ensures.items in
    text_cut (Soaked c.args.n) c.soak.new.out.items (g.K.Sink.state c.args.out.now)
    (g.K.Sink.state c.write_all.new.sink) _
    (subst (λ l. Soaked c.args.n (record { lines = l; refusal = None })) (sym same) (OnSoak made.0 made.1))
    (rw c.as_slice.ensures.value at c.in-Err.ensures)

pub returns-in-Err-Refused : goal.returns-in-Err-Refused
returns-in-Err-Refused g c =
    let not_soaked : Soaks c.args.n c.new-line.result.items c.soak.new.out.items
    (Err (fails.Refused c.in-Err-Refused.refusal)) = rw c.in-Err-Refused.field-0-is at c.in-Err-Refused.ensures in
    text_refused (Soaked c.args.n) c.in-Err-Refused.refusal (g.K.Sink.state c.args.out.now)
    (OnNoSoak not_soaked.0)
