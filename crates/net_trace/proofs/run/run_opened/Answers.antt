use Rattle.std.proofs.Common.{◌≡◌, ◌++◌, subst}
use Rattle.trace_text.specs.Headers.{NoHeader, trace}
use Rattle.net_trace.proofs.OpenLemmas.{fault_ends, opened_ends, refused_ends, same_ports}
use Rattle.net_trace.proofs.run.run_opened.Goals as goal

pub returns-in-Ready-clause-ends : goal.returns-in-Ready-clause-ends
returns-in-Ready-clause-ends g c = λ net fresh ports.
    let h = c.in-Ready.ensures.heads in
    opened_ends net (g.S.Shelf.state c.args.shelf.now) (g.S.Shelf.state c.run_rows.new.shelf) _ _ c.run_rows.result
    (c.run_rows.ensures.ends net ((g.S.Shelf.state c.args.shelf.now).slots 1).left fresh
    (same_ports net _ _ c.args.reader.now.ports c.find_header.new.reader h.3 _ ports h.4 h.5))

pub returns-in-Refused-clause-ends : goal.returns-in-Refused-clause-ends
returns-in-Refused-clause-ends g c = λ net fresh ports.
    let h = c.in-Refused.ensures.heads in
    refused_ends net _ _ _ h.0 c.in-Refused.refusal h.1
    (λ rest left. subst (λ p. trace p (h.0 ++ rest) ≡ NoHeader c.in-Refused.refusal) ports (h.2 rest left))

pub returns-in-Fault-clause-ends : goal.returns-in-Fault-clause-ends
returns-in-Fault-clause-ends g c = λ net fresh ports.
    let h = c.in-Fault.ensures.heads in fault_ends net _ _ _ h.1 h.2 h.3 h.4
