use Rattle.std.proofs.Common.{◌≡◌, ◌≤◌, drop}
use Rattle.pbs_check.specs.inner.Stages.{over_inputs}
use Rattle.pbs_check.proofs.declaring.over_inputs.Given as goal

abbrev pub invariant-loop-decl : goal.invariant-loop-decl
invariant-loop-decl l = record {
  found : over_inputs l.count (drop l.decl-index l.decl-items) ≡ over_inputs 0 l.inputs;
  few : l.count ≤ 64;
}
