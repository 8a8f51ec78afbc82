use Rattle.pbs_cli.specs.inner.Parts.{job_meant}
use Rattle.pbs_cli.proofs.FirstLemmas.{done_with, not_read}
use Rattle.pbs_cli.proofs.top.attempt.Goals as goal

pub returns-in-Ok : goal.returns-in-Ok
returns-in-Ok g c =
    done_with (job_meant c.args.job.now) c.args.first.now (g.S.Shelf.state c.args.shelf.now)
    (g.S.Shelf.state c.read_first.new.shelf) (g.S.Shelf.state c.do_job.new.shelf) (g.K.Sink.state c.args.out.now)
    (g.K.Sink.state c.do_job.new.out) c.in-Ok.bytes c.in-Ok.ensures c.do_job.result
    (rw c.as_slice.ensures.value at c.do_job.ensures)

pub returns-in-Err : goal.returns-in-Err
returns-in-Err g c =
    not_read (job_meant c.args.job.now) c.args.first.now (g.S.Shelf.state c.args.shelf.now)
    (g.S.Shelf.state c.read_first.new.shelf) (g.K.Sink.state c.args.out.now) c.in-Err.fail c.in-Err.ensures
