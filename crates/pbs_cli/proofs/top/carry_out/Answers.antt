use Rattle.pbs_cli.proofs.top.carry_out.Goals as goal

pub returns-in-Run : goal.returns-in-Run
returns-in-Run g c = rw c.in-Run.is c.run_job.ensures

pub returns-in-Soak : goal.returns-in-Soak
returns-in-Soak g c = rw c.in-Soak.is (c.run_soak.ensures (g.S.Shelf.state c.args.shelf.now))

pub run_soak-requires : goal.run_soak-requires
run_soak-requires g c = rw c.in-Soak.is at c.requires
