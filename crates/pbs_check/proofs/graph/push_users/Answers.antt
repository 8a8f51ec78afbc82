use Rattle.std.proofs.Common.{get_or}
use Rattle.pbs_check.specs.inner.Links.{link}
use Rattle.pbs_check.proofs.UserLemmas.{adds_none, adds_step, copied_at}
use Rattle.pbs_check.proofs.graph.push_users.Goals as goal

pub loop-link-init : goal.loop-link-init
loop-link-init c = adds_none c.args.user c.args.users.now.items

pub loop-link-preserved : goal.loop-link-preserved
loop-link-preserved c =
    let i = c.loop-link.link-index in let d = link 0 (record { start = 0; end = 0 }) in
    adds_step c.args.links.now i (get_or c.args.links.now i d) c.args.user c.args.users.now.items
    c.loop-link.users.items c.push_user.new.users.items
    c.loop-link-test.true (copied_at c.args.links.now i d c.loop-link-test.true) c.loop-link.invariant
    c.in_ok-push_user.ensures.size c.in_ok-push_user.ensures.kept c.in_ok-push_user.ensures.added
    c.in_ok-push_user.ensures.only
