use Rattle.std.proofs.Common.{Some, arith, ap, ◌∙◌, []}
use Rattle.vlog_text.specs.declared.raw.RawName.{RawName}
use Rattle.vlog_text.specs.Words.{repeated}
use Rattle.vlog_text.specs.Refusing.{earliest, refusals}
use Rattle.vlog_names.proofs.Entries.{entered_more, entered_firsts, entered_found, all_present}
use Rattle.vlog_names.proofs.entering.enter_ports.Goals as goal

pub loop-place-preserved : goal.loop-place-preserved
loop-place-preserved c =
    entered_more (λ (n : RawName). Some n) 4 c.args.ports.now c.loop-place.place c.index-ports-place.result
    c.loop-place.firsts c.enter_name.new.firsts c.args.found c.loop-place.found c.in_ok-found.found
    (omega arith) c.index-ports-place.is c.loop-place.invariant c.in_ok-found.ensures.learns c.in_ok-found.ensures.found

pub returns-clause-firsts : goal.returns-clause-firsts
returns-clause-firsts c =
    entered_firsts (λ (n : RawName). Some n) 4 c.args.ports.now c.loop-place.place c.loop-place.firsts c.args.found
    c.loop-place.found
    c.loop-place.invariant (omega arith)

pub returns-clause-found : goal.returns-clause-found
returns-clause-found c =
    entered_found (λ (n : RawName). Some n) 4 c.args.ports.now c.loop-place.place c.loop-place.firsts c.args.found
    c.loop-place.found
    c.loop-place.invariant (omega arith)
    ∙ ap (λ ns. earliest c.args.found (refusals 4 (repeated [] ns))) (all_present c.args.ports.now)
