use Rattle.std.proofs.Common.{ap}
use Rattle.pbs_cli.specs.Answers.{Checks, Compiled, Mapped, Migrated}
use Rattle.pbs_cli.proofs.JobLemmas.{alone_does}
use Rattle.pbs_cli.proofs.job.do_job.Goals as goal

pub returns-in-Check : goal.returns-in-Check
returns-in-Check g c =
    rw c.in-Check.is (alone_does Checks c.args.text.now (g.S.Shelf.state c.args.shelf.now)
    (g.K.Sink.state c.args.out.now) (g.K.Sink.state c.check_text.new.out) c.check_text.result c.check_text.ensures)

pub returns-in-Compile : goal.returns-in-Compile
returns-in-Compile g c =
    rw c.in-Compile.is (alone_does Compiled c.args.text.now (g.S.Shelf.state c.args.shelf.now)
    (g.K.Sink.state c.args.out.now) (g.K.Sink.state c.compile_text.new.out) c.compile_text.result
    c.compile_text.ensures)

pub returns-in-Map : goal.returns-in-Map
returns-in-Map g c =
    rw c.in-Map.is (alone_does Mapped c.args.text.now (g.S.Shelf.state c.args.shelf.now)
    (g.K.Sink.state c.args.out.now) (g.K.Sink.state c.map_text.new.out) c.map_text.result
    c.map_text.ensures)

pub returns-in-Migrate : goal.returns-in-Migrate
returns-in-Migrate g c =
    rw c.in-Migrate.is (alone_does Migrated c.args.text.now (g.S.Shelf.state c.args.shelf.now)
    (g.K.Sink.state c.args.out.now) (g.K.Sink.state c.migrate_text.new.out) c.migrate_text.result
    c.migrate_text.ensures)

pub returns-in-Sim : goal.returns-in-Sim
returns-in-Sim g c =
    let run = c.sim.ensures in
    rw c.in-Sim.is (record {
      goes_on = run.goes_on;
      other = run.other;
      later = run.later;
      ends = run.ends;
      few = run.few;
      leaves = λ refused.
          ap (λ s. (g.S.Shelf.state s).slots 1) (run.untouched refused.0 refused.1).0;
    })

pub returns-in-Trace : goal.returns-in-Trace
returns-in-Trace g c =
    let run = c.trace.ensures in
    rw c.in-Trace.is (record {
      goes_on = run.goes_on;
      other = run.other;
      later = run.later;
      ends = run.ends;
      few = run.few;
      leaves = λ refused.
          ap (λ s. (g.S.Shelf.state s).slots 1) (run.untouched refused.0 refused.1).0;
    })
