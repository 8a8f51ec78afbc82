use Rattle.std.proofs.Common.{◌≡◌, ◌++◌, drop}
use Rattle.pbs_check.specs.Declaring.{declared_inputs}
use Rattle.pbs_check.proofs.named.push_inputs.Given as goal

abbrev pub invariant-loop-decl : goal.invariant-loop-decl
invariant-loop-decl l = l.out.items ++ declared_inputs (drop l.decl-index l.decl-items) ≡ l.initial.out.items ++
    declared_inputs l.inputs
