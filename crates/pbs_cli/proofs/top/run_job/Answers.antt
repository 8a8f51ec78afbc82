use Rattle.pbs_cli.specs.inner.Parts.{job_meant}
use Rattle.pbs_cli.proofs.RunLemmas.{finishes}
use Rattle.pbs_cli.proofs.top.run_job.Goals as goal

pub returns : goal.returns
returns g c =
    finishes (job_meant c.args.job.now) c.args.first.now (g.S.Shelf.state c.args.shelf.now)
    (g.S.Shelf.state c.attempt-end.new.shelf) (g.K.Sink.state c.args.out.now) (g.K.Sink.state c.attempt-end.new.out)
    (g.K.Sink.state c.finish.new.out) c.attempt-end.result c.finish.result c.attempt-end.ensures c.finish.ensures
