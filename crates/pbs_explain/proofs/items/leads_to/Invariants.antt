use Rattle.std.proofs.Common.{◌≡◌, ◌≤◌}
use Rattle.std.specs.Prelude.{drop}
use Rattle.pbs_explain.specs.inner.Checked.{leads}
use Rattle.pbs_explain.proofs.items.leads_to.Given as goal

abbrev pub invariant-loop-c : goal.invariant-loop-c
invariant-loop-c l = record {
  within : l.from ≤ l.n;
  same : leads 0 l.items l.n ≡ leads l.from (drop l.c l.items) l.n;
}
