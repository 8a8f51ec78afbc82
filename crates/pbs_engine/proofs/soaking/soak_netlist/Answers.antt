use Rattle.std.proofs.Common.{◌*◌}
use Rattle.soak_run.specs.Soaks.{entries, spec_text}
use Rattle.pbs_engine.proofs.SoakLemmas.{circuit_of_back, soaked}
use Rattle.pbs_engine.proofs.soaking.soak_netlist.Goals as goal

pub returns-in-Ok-write_line : goal.returns-in-Ok-write_line
returns-in-Ok-write_line c =
    let net = c.args.net.now in
    let n = c.args.n in
    let circuit = circuit_of_back (spec_text n) net c.requires.net in
    soaked n net c.requires.net (c.simulation.ensures.some net (entries n (10 * n)) circuit) c.in-Ok.counts
    c.args.out.now.items c.write_line.new.out.items c.in-Ok.ensures c.in-Ok-write_line.ensures.ok
