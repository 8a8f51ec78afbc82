use Rattle.std.proofs.Common.{List, subst}
use Rattle.pbs_check.specs.declared.graph.Link.{Link}
use Rattle.pbs_check.specs.inner.Links.{AddsUsers}
use Rattle.pbs_check.proofs.UserLemmas.{users_none, users_step, users_all}
use Rattle.pbs_check.proofs.graph.users_of.Goals as goal

pub loop-user-init : goal.loop-user-init
loop-user-init c = users_none c.args.uses.now c.in_ok-users.users.items c.in_ok-users.ensures.size
    c.in_ok-users.ensures.none

pub loop-user-preserved : goal.loop-user-preserved
loop-user-preserved c =
    users_step c.args.uses.now c.loop-user.user c.index-uses-user.result c.loop-user.users.items
    c.push_users.new.users.items
    c.loop-user-test.true c.index-uses-user.is c.loop-user.invariant
    (let P : List Link → Type 0 = λ ls. AddsUsers ls c.loop-user.user c.loop-user.users.items
    c.push_users.new.users.items in subst P c.as_slice.ensures.value c.in_ok-push_users.ensures)

pub returns : goal.returns
returns c = users_all c.args.uses.now c.loop-user.user c.loop-user.users.items c.loop-user-test.false
    c.loop-user.invariant
