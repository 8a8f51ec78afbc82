use Rattle.pbs_cli.proofs.SoakLemmas.{soak_finishes}
use Rattle.pbs_cli.proofs.top.run_soak.Goals as goal

pub returns : goal.returns
returns g c = λ shelf.
    soak_finishes c.args.n shelf (g.K.Sink.state c.args.out.now) (g.K.Sink.state c.soak_line-end.new.out)
    (g.K.Sink.state c.finish.new.out) c.soak_line-end.result c.finish.result c.soak_line-end.ensures c.finish.ensures
