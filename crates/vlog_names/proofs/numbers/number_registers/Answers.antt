use Rattle.std.proofs.Common.{◌+◌, Some, None, cond, arith, sym, ap, ◌∙◌, subst}
use Rattle.vlog_text.specs.Standing.{is_reg}
use Rattle.vlog_names.specs.inner.Steps.{Learns}
use Rattle.vlog_names.specs.inner.Steps.{reg_name}
use Rattle.vlog_names.proofs.Numbering.{numbered_more, numbered_all, numbered_count, some_if}
use Rattle.vlog_names.proofs.numbers.number_registers.Goals as goal

pub loop-decl-preserved : goal.loop-decl-preserved
loop-decl-preserved c =
    let x = c.decl-item.result in
    numbered_more reg_name c.args.decls.now c.loop-decl.decl-index x c.loop-decl.firsts
    c.number_if.new.firsts c.loop-decl.count c.in_ok-count.count (omega arith) c.decl-item.is c.loop-decl.invariant
    (subst (λ b. Learns c.loop-decl.firsts c.number_if.new.firsts (cond b (Some x.name) None) c.loop-decl.count)
    c.is_reg.ensures c.in_ok-count.ensures.learns)
    (c.in_ok-count.ensures.count ∙ ap (λ b. c.loop-decl.count + cond b 1 0)
    (c.is_reg.ensures ∙ sym (some_if (is_reg x.kind) x.name)))

pub returns-clause-firsts : goal.returns-clause-firsts
returns-clause-firsts c =
    numbered_all reg_name c.args.decls.now c.loop-decl.decl-index c.loop-decl.firsts
    c.loop-decl.count c.loop-decl.invariant (omega arith)

pub returns-clause-few : goal.returns-clause-few
returns-clause-few c =
    let n = numbered_count reg_name c.args.decls.now c.loop-decl.decl-index c.loop-decl.firsts
    c.loop-decl.count c.loop-decl.invariant (omega arith) in
    omega arith
