use Rattle.pbs_edges.proofs.Tables.{means_more}
use Rattle.pbs_edges.proofs.terms.with_term.Goals as goal

pub returns-clause-means : goal.returns-clause-means
returns-clause-means c = means_more _ _ c.args.front.now.term c.args.term.now _ c.requires.front
    (rw c.deref.ensures.value at c.in_ok-bytes.ensures) c.in_ok-term.ensures c.requires.inputs
