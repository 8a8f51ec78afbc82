use Rattle.std.proofs.Common.{◌≡◌, take, map}
use Rattle.net_encode.specs.Codes.{code_in}
use Rattle.net_encode.proofs.codes.place_codes.Given as goal

abbrev pub invariant-loop-n : goal.invariant-loop-n
invariant-loop-n l = l.map ≡ map (λ leader. code_in 0 l.plan.groups leader) (take l.n l.plan.leaders)
