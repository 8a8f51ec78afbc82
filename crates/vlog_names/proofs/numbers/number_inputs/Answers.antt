use Rattle.std.proofs.Common.{◌≡◌, ◌+◌, Some, None, cond, arith, sym, ap, ◌∙◌, subst}
use Rattle.vlog_names.specs.Names.{kinds_in, is_plain}
use Rattle.vlog_names.specs.inner.Steps.{Learns}
use Rattle.vlog_names.specs.inner.Steps.{plain_name}
use Rattle.vlog_names.proofs.Numbering.{numbered_more, numbered_all, some_if}
use Rattle.vlog_names.proofs.numbers.number_inputs.Goals as goal

pub loop-name-preserved : goal.loop-name-preserved
loop-name-preserved c =
    let x = c.name-item.result in
    let kinds = kinds_in c.args.kinds.now in
    let test : c.is_plain-is_one.result ≡ is_plain (kinds x.word) x.word
    = c.is_plain-is_one.ensures ∙ ap (λ k. is_plain k x.word) c.of.ensures in
    numbered_more (plain_name kinds) c.args.ports.now c.loop-name.name-index x c.loop-name.firsts
    c.number_if.new.firsts c.loop-name.count c.in_ok-count.count (omega arith) c.name-item.is c.loop-name.invariant
    (subst (λ b. Learns c.loop-name.firsts c.number_if.new.firsts (cond b (Some x) None) c.loop-name.count) test
    c.in_ok-count.ensures.learns)
    (c.in_ok-count.ensures.count ∙ ap (λ b. c.loop-name.count + cond b 1 0)
    (test ∙ sym (some_if (is_plain (kinds x.word) x.word) x)))

pub returns : goal.returns
returns c =
    numbered_all (plain_name (kinds_in c.args.kinds.now)) c.args.ports.now c.loop-name.name-index c.loop-name.firsts
    c.loop-name.count c.loop-name.invariant (omega arith)
