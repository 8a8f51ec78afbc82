use Rattle.pbs_derive.specs.Derivations.{covers}
use Rattle.pbs_derive.proofs.Repeats.{repeats_unfold}
use Rattle.pbs_derive.proofs.laws.star_turns.Goals as goal

pub returns : goal.returns
returns c = λ spot e v. repeats_unfold (covers e v)
