use Rattle.trace_text.proofs.DigitLemmas.{full_row, next_wanted}
use Rattle.trace_text.proofs.line.is_wanted.Goals as goal

pub returns-then-begun-inputs : goal.returns-then-begun-inputs
returns-then-begun-inputs c = full_row c.args.inputs c.args.begun.now c.args.byte c.in-len1-up.len_at_least
    c.if-first-eq114.false c.requires c.if-begun-inputs.true

pub returns : goal.returns
returns c = next_wanted c.args.inputs c.args.begun.now c.args.byte c.is_binary.result c.is_binary.ensures
    c.in-len1-up.len_at_least c.if-first-eq114.false c.requires c.if-begun-inputs.false
