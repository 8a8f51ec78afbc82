use Rattle.std.proofs.Common.{◌≡◌, ◌++◌, ◌-◌, map}
use Rattle.pbs_names.specs.Naming.{bit_names}
use Rattle.pbs_check.specs.Declaring.{named}
use Rattle.pbs_check.proofs.named.push_input.Given as goal

abbrev pub invariant-loop-bit : goal.invariant-loop-bit
invariant-loop-bit l =
    l.out.items ++ map (named l.decl.span) (bit_names l.decl.name l.bit (l.decl.width - l.bit))
    ≡ l.initial.out.items ++ map (named l.decl.span) (bit_names l.decl.name 0 l.decl.width)
