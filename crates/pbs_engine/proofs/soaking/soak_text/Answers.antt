use Rattle.std.proofs.Common.{Err, subst}
use Rattle.pbs_engine.specs.Right.{IsReadBack, ReadsBack}
use Rattle.pbs_engine.proofs.SoakLemmas.{not_soaked}
use Rattle.pbs_engine.proofs.soaking.soak_text.Goals as goal

pub soak_netlist-requires-clause-net : goal.soak_netlist-requires-clause-net
soak_netlist-requires-clause-net c = subst (λ t. IsReadBack t c.in-Ok.net) c.requires.text c.in-Ok.ensures

pub returns-in-Err : goal.returns-in-Err
returns-in-Err c =
    not_soaked c.args.n c.args.out.now.items c.in-Err.fail
    (subst (λ t. ReadsBack t (Err c.in-Err.fail)) c.requires.text c.in-Err.ensures)
