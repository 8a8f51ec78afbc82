use Rattle.std.proofs.Common.{◌-◌}
use Rattle.bool_bdd.specs.inner.Pairs.{pair_first}
use Rattle.bool_bdd.proofs.store.Store.+walk.Given as goal

abbrev pub decreases-walk : goal.decreases-walk
decreases-walk l = 64 - pair_first l.self.now l.pair
