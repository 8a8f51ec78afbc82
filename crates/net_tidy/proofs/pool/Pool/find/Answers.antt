use Rattle.net_tidy.proofs.Pooled.{found_in}
use Rattle.net_tidy.proofs.pool.Pool.find.Goals as goal

pub returns-clause-found : goal.returns-clause-found
returns-clause-found c =
    rw (← c.self.view_is) (found_in c.number_of.result c.self.inside.gates _ c.args.form c.self.invariant
    c.number_of.ensures)
