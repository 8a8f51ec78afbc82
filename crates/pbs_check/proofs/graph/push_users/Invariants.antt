use Rattle.std.proofs.Common.{take}
use Rattle.pbs_check.specs.inner.Links.{AddsUsers}
use Rattle.pbs_check.proofs.graph.push_users.Given as goal

abbrev pub invariant-loop-link : goal.invariant-loop-link
invariant-loop-link l = AddsUsers (take l.link-index l.links) l.user l.initial.users.items l.users.items
