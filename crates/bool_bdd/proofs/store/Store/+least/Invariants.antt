use Rattle.std.proofs.Common.{◌-◌}
use Rattle.bool_bdd.specs.Diagrams.{level}
use Rattle.bool_bdd.proofs.store.Store.+least.Given as goal

abbrev pub decreases-least : goal.decreases-least
decreases-least l = 64 - level l.self.now l.a
