use Rattle.std.proofs.Common.{arith, ◌+◌}
use Rattle.pbs_derive.proofs.Prefix.{covers_same, alive_same, abort_same, stands_same, fires_same, live_same}
use Rattle.pbs_derive.proofs.Prefix.{no_overlap_same}
use Rattle.pbs_derive.proofs.laws.by_prefix.Goals as goal

pub returns-clause-covered : goal.returns-clause-covered
returns-clause-covered c = covers_same

pub returns-clause-is_alive : goal.returns-clause-is_alive
returns-clause-is_alive c = alive_same

pub returns-clause-aborts : goal.returns-clause-aborts
returns-clause-aborts c = abort_same

pub returns-clause-stand : goal.returns-clause-stand
returns-clause-stand c = stands_same

pub returns-clause-fire : goal.returns-clause-fire
returns-clause-fire c = fires_same

pub returns-clause-is_live : goal.returns-clause-is_live
returns-clause-is_live c = live_same

pub returns-clause-no_overlap : goal.returns-clause-no_overlap
returns-clause-no_overlap c = λ main v w n same. no_overlap_same main v w n (n + 1) same (omega arith)
