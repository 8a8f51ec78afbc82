use Rattle.std.proofs.Common.{◌≡◌, ◌++◌, ◌-◌}
use Rattle.pbs_names.specs.Naming.{bit_names}
use Rattle.pbs_names.proofs.names.push_bits.Given as goal

abbrev pub invariant-loop-bit : goal.invariant-loop-bit
invariant-loop-bit l = l.words.items ++ bit_names l.bus l.bit (l.width - l.bit) ≡ l.initial.words.items ++ bit_names
    l.bus 0 l.width
