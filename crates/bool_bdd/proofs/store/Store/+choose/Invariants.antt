use Rattle.std.proofs.Common.{◌-◌}
use Rattle.bool_bdd.specs.Choices.{first_of}
use Rattle.bool_bdd.proofs.store.Store.+choose.Given as goal

abbrev pub decreases-choose : goal.decreases-choose
decreases-choose l = 64 - first_of l.self.now l.asked
