use Rattle.std.proofs.Common.{◌-◌, length, drop}
use Rattle.net_eval.specs.Readers.{readers_from}
use Rattle.net_eval.specs.inner.Chains.{Holds}
use Rattle.net_eval.proofs.chains.chains_of.Given as goal

-- the readers among the last gates were found
abbrev pub invariant-loop-done : goal.invariant-loop-done
invariant-loop-done l =
    Holds l.chains l.registers (length l.net)
    (λ w. readers_from (length l.net - l.done) (drop (length l.net - l.done) l.net) w)
