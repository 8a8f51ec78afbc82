use Rattle.std.proofs.Common.{Err, codes}
use Rattle.pbs_engine.specs.Accepted as engine
use Rattle.pbs_engine.specs.declared.fail.EngineFail.TheVariants as fails
use Rattle.pbs_cli.specs.Answers.{Checks, OnAccepted, OnBroken}
use Rattle.pbs_cli.proofs.JobLemmas.{text_written, text_cut, text_refused}
use Rattle.pbs_cli.proofs.job.check_text.Goals as goal

pub returns-in-Ok-write_all : goal.returns-in-Ok-write_all
returns-in-Ok-write_all g c =
    text_written (Checks c.args.text.now) (codes "accepted\n") (g.K.Sink.state c.args.out.now)
    (g.K.Sink.state c.write_all.new.sink) _ (OnAccepted c.in-Ok.ensures.0 c.in-Ok.ensures.1) c.in-Ok-write_all.ensures

pub returns-in-Err : goal.returns-in-Err
returns-in-Err g c =
    text_cut (Checks c.args.text.now) (codes "accepted\n") (g.K.Sink.state c.args.out.now)
    (g.K.Sink.state c.write_all.new.sink) _ (OnAccepted c.in-Ok.ensures.0 c.in-Ok.ensures.1) c.in-Err.ensures

pub returns-in-Err-Refused : goal.returns-in-Err-Refused
returns-in-Err-Refused g c =
    let breaks : engine.Checks c.args.text.now (Err (fails.Refused c.in-Err-Refused.refusal)) =
    rw c.in-Err-Refused.field-0-is at c.in-Err-Refused.ensures in
    text_refused (Checks c.args.text.now) c.in-Err-Refused.refusal (g.K.Sink.state c.args.out.now) (OnBroken breaks)
