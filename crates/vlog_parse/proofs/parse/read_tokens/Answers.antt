use Rattle.std.proofs.Common.{refl, sym, ◌∙◌}
use Rattle.vlog_parse.proofs.Reaching.{reached_start, reached_end, loop_more, loop_stop, loop_over}
use Rattle.vlog_parse.proofs.Reaching.{found_whole}
use Rattle.vlog_parse.proofs.parse.read_tokens.Goals as goal

pub loop-token-init : goal.loop-token-init
loop-token-init c = reached_start c.args.bytes.now c.nothing-found.result c.nothing-found.ensures

pub loop-token-preserved : goal.loop-token-preserved
loop-token-preserved c =
    loop_more c.args.bytes.now c.args.tokens.now c.loop-token.token-index _ c.loop-token.found c.loop-token.state
    c.in_ok-next.field-0 c.in-Some.next c.step.new.found c.loop-token.invariant c.loop-token-test.true c.in-Some.is
    c.in_ok-next.ensures

pub returns-in-None-clause-err : goal.returns-in-None-clause-err
returns-in-None-clause-err c =
    rw c.refused.ensures (
      _,
      refl,
      loop_stop c.args.bytes.now c.args.end c.args.tokens.now c.loop-token.token-index _ c.loop-token.found
          c.loop-token.state c.in_ok-next.field-0 c.step.new.found c.loop-token.invariant c.loop-token-test.true
          c.in-None.is c.in_ok-next.ensures,
    )

pub returns-then-is_whole-clause-ok : goal.returns-then-is_whole-clause-ok
returns-then-is_whole-clause-ok c =
    found_whole c.args.bytes.now c.args.tokens.now c.loop-token.found c.loop-token.state c.netlist_of.result
    (loop_over c.args.bytes.now c.args.tokens.now c.loop-token.token-index c.loop-token.found c.loop-token.state
    c.loop-token.invariant c.loop-token-test.false) (sym c.is_whole.ensures ∙ c.if-is_whole.true)
    c.netlist_of.ensures.ok

pub returns-else-is_whole-clause-err : goal.returns-else-is_whole-clause-err
returns-else-is_whole-clause-err c =
    rw c.refused-else-is_whole.ensures (
      _,
      refl,
      reached_end c.args.bytes.now c.args.end c.args.tokens.now c.loop-token.found c.loop-token.state
          (loop_over c.args.bytes.now c.args.tokens.now c.loop-token.token-index c.loop-token.found c.loop-token.state
          c.loop-token.invariant c.loop-token-test.false) (sym c.is_whole.ensures ∙ c.if-is_whole.false),
    )
