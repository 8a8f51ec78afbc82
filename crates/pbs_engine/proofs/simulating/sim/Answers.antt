use Rattle.std.proofs.Common.{Err, refl}
use Rattle.vlog_read.specs.Read.{Reads}
use Rattle.vlog_text.specs.declared.fail.VlogFail.TheVariants as reads
use Rattle.net_trace.proofs.EndingLemmas.{took_few}
use Rattle.pbs_engine.specs.Outcomes.{OfBadNetlist, netlist_task}
use Rattle.pbs_engine.proofs.EndLemmas.{netlist_ends, no_memory, refused_at_once}
use Rattle.pbs_engine.proofs.simulating.sim.Goals as goal

pub returns-in-Ok-clause-ends : goal.returns-in-Ok-clause-ends
returns-in-Ok-clause-ends g c =
    netlist_ends c.args.text.now c.args.name.now c.in-Ok.net (g.S.Shelf.state c.args.shelf.now)
    (g.S.Shelf.state c.simulate.new.shelf) (g.K.Sink.state c.args.sink.now) (g.K.Sink.state c.simulate.new.sink)
    c.simulate.result c.in-Ok.ensures c.simulate.ensures.ends

pub returns-in-Ok-clause-untouched : goal.returns-in-Ok-clause-untouched
returns-in-Ok-clause-untouched g c = λ r refused.
    absurd (c.one_answer.ensures.apart c.args.text.now c.in-Ok.net r c.in-Ok.ensures refused)

pub returns-in-Ok-clause-no_fault : goal.returns-in-Ok-clause-no_fault
returns-in-Ok-clause-no_fault g c = λ r refused.
    absurd (c.one_answer.ensures.apart c.args.text.now c.in-Ok.net r c.in-Ok.ensures refused)

pub returns-in-Err-Refused-clause-ends : goal.returns-in-Err-Refused-clause-ends
returns-in-Err-Refused-clause-ends g c =
    let refused : Reads c.args.text.now (Err (reads.Refused c.in-Err-Refused.refusal)) =
    rw c.in-Err-Refused.field-0-is at c.in-Err-Refused.ensures in
    rw c.in-Err-Refused.field-0-is (refused_at_once (netlist_task c.args.name.now) c.args.text.now
    c.in-Err-Refused.refusal (g.S.Shelf.state c.args.shelf.now) (g.K.Sink.state c.args.sink.now)
    (λ bytes. OfBadNetlist refused))

pub returns-in-Err-Refused-clause-few : goal.returns-in-Err-Refused-clause-few
returns-in-Err-Refused-clause-few g c = λ files told. took_few _ _ _ refl

pub returns-in-Err-Memory-clause-ends : goal.returns-in-Err-Memory-clause-ends
returns-in-Err-Memory-clause-ends g c =
    no_memory (netlist_task c.args.name.now) c.args.text.now (g.S.Shelf.state c.args.shelf.now)
    (g.K.Sink.state c.args.sink.now)

pub returns-in-Err-Memory-clause-few : goal.returns-in-Err-Memory-clause-few
returns-in-Err-Memory-clause-few g c = λ files told. took_few _ _ _ refl
