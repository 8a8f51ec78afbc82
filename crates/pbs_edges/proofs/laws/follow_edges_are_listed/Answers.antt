use Rattle.pbs_edges.specs.Listed.{follow_edges}
use Rattle.pbs_edges.proofs.Numbering.{is_numbered}
use Rattle.pbs_edges.proofs.Distinct.{follow_edges-distinct}
use Rattle.pbs_edges.proofs.Listed.{follow_listed, listed_follow}
use Rattle.pbs_edges.proofs.Sorted.{contains_from, contains_to, distinct-once}
use Rattle.pbs_edges.proofs.laws.follow_edges_are_listed.Goals as goal

pub returns-clause-exact : goal.returns-clause-exact
returns-clause-exact c = λ main d. (
  λ h. follow_listed main d (contains_to (follow_edges main) d h),
  λ f. contains_from (follow_edges main) d (listed_follow f.3),
)

pub returns-clause-once : goal.returns-clause-once
returns-clause-once c = λ main i j d counted a b.
    distinct-once (follow_edges main) i j d (follow_edges-distinct main 0 0 0 (is_numbered main counted)) a b
