use Rattle.std.proofs.Common.{inl}
use Rattle.pbs_edges.proofs.Soundness.{no_overlap, stand_together}
use Rattle.pbs_edges.proofs.laws.overlap_rule_is_sound.Goals as goal

pub returns-clause-no_overlap : goal.returns-clause-no_overlap
returns-clause-no_overlap c = λ main v k number accepted. no_overlap main number v accepted k

pub returns-clause-together : goal.returns-clause-together
returns-clause-together c = λ main v k p q number accepted h g. inl (stand_together main number v accepted k p q h g)
