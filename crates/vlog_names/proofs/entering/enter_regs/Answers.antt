use Rattle.std.proofs.Common.{Some, get_or, arith, ap, ◌∙◌, []}
use Rattle.vlog_text.specs.declared.raw.RawReg.{RawReg}
use Rattle.vlog_text.specs.Words.{repeated}
use Rattle.vlog_text.specs.Refusing.{earliest, refusals}
use Rattle.vlog_names.proofs.Entries.{entered_more, entered_firsts, entered_found, mapped_present}
use Rattle.vlog_names.proofs.entering.enter_regs.Goals as goal

pub loop-place-preserved : goal.loop-place-preserved
loop-place-preserved c =
    entered_more (λ (r : RawReg). Some r.target) 5 c.args.regs.now c.loop-place.place
    (get_or c.args.regs.now c.loop-place.place c.index-regs-place.result)
    c.loop-place.firsts c.enter_name.new.firsts c.args.found c.loop-place.found c.in_ok-found.found
    (omega arith) (ap (λ d. get_or c.args.regs.now c.loop-place.place d) c.index-regs-place.is) c.loop-place.invariant
    c.in_ok-found.ensures.learns c.in_ok-found.ensures.found

pub returns-clause-firsts : goal.returns-clause-firsts
returns-clause-firsts c =
    entered_firsts (λ (r : RawReg). Some r.target) 5 c.args.regs.now c.loop-place.place c.loop-place.firsts c.args.found
    c.loop-place.found
    c.loop-place.invariant (omega arith)

pub returns-clause-found : goal.returns-clause-found
returns-clause-found c =
    entered_found (λ (r : RawReg). Some r.target) 5 c.args.regs.now c.loop-place.place c.loop-place.firsts c.args.found
    c.loop-place.found
    c.loop-place.invariant (omega arith) ∙ ap (λ ns. earliest c.args.found (refusals 5 (repeated [] ns)))
    (mapped_present (λ (r : RawReg). r.target) c.args.regs.now)
