use Rattle.pbs_edges.proofs.Numbering.{is_numbered}
use Rattle.pbs_edges.proofs.Effective.{fits_by_effective_term}
use Rattle.pbs_edges.proofs.laws.effective_terms_fit.Goals as goal

pub returns : goal.returns
returns c = λ main p v counted l. fits_by_effective_term main p v (is_numbered main counted) l
