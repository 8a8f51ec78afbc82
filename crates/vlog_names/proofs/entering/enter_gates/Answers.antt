use Rattle.std.proofs.Common.{get_or, arith, ap}
use Rattle.vlog_text.specs.declared.raw.RawGate.{RawGate}
use Rattle.vlog_text.specs.Words.{target_name}
use Rattle.vlog_names.proofs.Entries.{entered_more, entered_firsts, entered_found}
use Rattle.vlog_names.proofs.entering.enter_gates.Goals as goal

pub loop-place-preserved : goal.loop-place-preserved
loop-place-preserved c =
    entered_more (λ (g : RawGate). target_name g.target) 5 c.args.gates.now c.loop-place.place
    (get_or c.args.gates.now c.loop-place.place c.index-gates-place.result)
    c.loop-place.firsts c.enter_target.new.firsts c.args.found c.loop-place.found c.in_ok-found.found
    (omega arith) (ap (λ d. get_or c.args.gates.now c.loop-place.place d) c.index-gates-place.is) c.loop-place.invariant
    c.in_ok-found.ensures.learns c.in_ok-found.ensures.found

pub returns-clause-firsts : goal.returns-clause-firsts
returns-clause-firsts c =
    entered_firsts (λ (g : RawGate). target_name g.target) 5 c.args.gates.now c.loop-place.place c.loop-place.firsts
    c.args.found c.loop-place.found
    c.loop-place.invariant (omega arith)

pub returns-clause-found : goal.returns-clause-found
returns-clause-found c =
    entered_found (λ (g : RawGate). target_name g.target) 5 c.args.gates.now c.loop-place.place c.loop-place.firsts
    c.args.found c.loop-place.found
    c.loop-place.invariant (omega arith)
