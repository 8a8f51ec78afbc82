use Rattle.std.proofs.Common.{refl, inl, arith}
use Rattle.pbs_check.proofs.GraphLemmas.{user_kept, user_added, user_only}
use Rattle.pbs_check.proofs.graph.push_user.Goals as goal

pub returns-in_ok-push-clause-kept : goal.returns-in_ok-push-clause-kept
returns-in_ok-push-clause-kept c =
    user_kept c.args.users.now.items c.args.used c.args.user c.in-Some.list.now c.push.new.self
    (omega (arith, c.in-Some.ensures.variant.0 refl, c.args.users.now.ok)) c.in-Some.ensures.item.1
    c.in_ok-push.ensures.items

pub returns-in_ok-push-clause-only : goal.returns-in_ok-push-clause-only
returns-in_ok-push-clause-only c =
    user_only c.args.users.now.items c.args.used c.args.user c.in-Some.list.now c.push.new.self
    (omega (arith, c.in-Some.ensures.variant.0 refl, c.args.users.now.ok)) c.in-Some.ensures.item.1
    c.in_ok-push.ensures.items

pub returns-in_ok-push-clause-added : goal.returns-in_ok-push-clause-added
returns-in_ok-push-clause-added c within =
    user_added c.args.users.now.items c.args.used c.args.user c.in-Some.list.now c.push.new.self within
    c.in_ok-push.ensures.items

pub returns-in_default-clause-only : goal.returns-in_default-clause-only
returns-in_default-clause-only c = λ k u here. inl here
