use Rattle.pbs_edges.proofs.Scopeless.{scopeless_refuses_none}
use Rattle.pbs_edges.proofs.laws.scopeless_is_clear.Goals as goal

pub returns : goal.returns
returns c = λ main none s h. scopeless_refuses_none main s none h
