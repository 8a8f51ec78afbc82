use Rattle.net_tidy.proofs.Reducing.{opposite_back, opposite_front}
use Rattle.net_tidy.proofs.pool.Pool.are_opposite.Goals as goal

pub returns-then-negates : goal.returns-then-negates
returns-then-negates c = λ is. opposite_front c.args.self.now c.args.a c.args.b (c.negates.ensures is)

pub returns-else-negates : goal.returns-else-negates
returns-else-negates c = λ is. opposite_back c.args.self.now c.args.a c.args.b (c.negates-else-negates.ensures is)
