use Rattle.trace_text.proofs.DigitLemmas.{first_wanted}
use Rattle.trace_text.proofs.line.is_wanted_first.Goals as goal

pub returns : goal.returns
returns c = first_wanted c.args.inputs c.args.byte c.is_binary.result c.is_binary.ensures c.if-byte-eq114.false
    c.if-inputs-eq0.false
