use Rattle.std.proofs.Common.{take}
use Rattle.net_encode.specs.Codes.{all_hold}
use Rattle.net_encode.specs.inner.Drafts.{Draws}
use Rattle.net_encode.proofs.decode.add_literals.Given as goal

abbrev pub invariant-loop-n : goal.invariant-loop-n
invariant-loop-n l = Draws l.fn.draft l.draft l.wire l.n 0 (λ row. all_hold row.registers (take l.n l.literals))
