use Rattle.std.proofs.Common.{◌≡◌, ◌++◌, drop}
use Rattle.pbs_check.specs.Declaring.{declared_actions}
use Rattle.pbs_check.proofs.named.push_actions.Given as goal

abbrev pub invariant-loop-decl : goal.invariant-loop-decl
invariant-loop-decl l = l.out.items ++ declared_actions (drop l.decl-index l.decl-items) ≡ l.initial.out.items ++
    declared_actions l.actions
