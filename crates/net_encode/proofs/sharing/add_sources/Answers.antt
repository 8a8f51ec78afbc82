use Rattle.std.proofs.Common.{[], arith}
use Rattle.net_encode.proofs.Shared.{source_more}
use Rattle.net_encode.proofs.Unread.{leaves_more, none_at, none_of, none_with}
use Rattle.net_encode.proofs.sharing.add_sources.Goals as goal

pub loop-n-preserved : goal.loop-n-preserved
loop-n-preserved c =
    let n = c.loop-n.n in
    let others = c.args.others.now in
    let made = source_more c.args.draft.now c.loop-n.draft c.behind.new.self n others c.loop-n.wires c.push.new.self
    c.in_ok-wire.wire _ (omega arith) c.loop-n.invariant.0 c.loop-n.invariant.1 c.in_ok-wire.ensures.draws
    c.in_ok-push.ensures.ok in (
      made.0,
      made.1,
      leaves_more c.args.draft.now c.loop-n.draft c.behind.new.self others c.loop-n.wires _ c.in_ok-wire.wire
          c.push.new.self c.loop-n.invariant.2 c.in_ok-wire.ensures.unread
          (λ outputs all. none_with outputs _ [] (none_at outputs others n _ (omega arith) all) (none_of outputs))
          c.in_ok-push.ensures.ok,
    )
