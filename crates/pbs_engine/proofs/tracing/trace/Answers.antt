use Rattle.std.proofs.Common.{Err, refl}
use Rattle.pbs_engine.specs.Right.{ReadsBack}
use Rattle.pbs_engine.specs.declared.fail.EngineFail.TheVariants as engine
use Rattle.net_trace.proofs.EndingLemmas.{took_few}
use Rattle.pbs_engine.specs.Outcomes.{OfRefused, text_task}
use Rattle.pbs_engine.proofs.EndLemmas.{net_ends, no_memory, refused_at_once}
use Rattle.pbs_engine.proofs.tracing.trace.Goals as goal

pub returns-in-Ok-clause-ends : goal.returns-in-Ok-clause-ends
returns-in-Ok-clause-ends g c =
    net_ends c.args.text.now c.args.name.now c.in-Ok.net (g.S.Shelf.state c.args.shelf.now)
    (g.S.Shelf.state c.simulate.new.shelf) (g.K.Sink.state c.args.sink.now) (g.K.Sink.state c.simulate.new.sink)
    c.simulate.result c.in-Ok.ensures c.simulate.ensures.ends

pub returns-in-Ok-clause-untouched : goal.returns-in-Ok-clause-untouched
returns-in-Ok-clause-untouched g c = λ r refused.
    let back = c.in-Ok.ensures in absurd (c.one_check.ensures.apart c.args.text.now back.spec r back.accepted refused)

pub returns-in-Ok-clause-no_fault : goal.returns-in-Ok-clause-no_fault
returns-in-Ok-clause-no_fault g c = λ r refused.
    let back = c.in-Ok.ensures in absurd (c.one_check.ensures.apart c.args.text.now back.spec r back.accepted refused)

pub returns-in-Err-Refused-clause-ends : goal.returns-in-Err-Refused-clause-ends
returns-in-Err-Refused-clause-ends g c =
    let back : ReadsBack c.args.text.now (Err (engine.Refused c.in-Err-Refused.refusal)) =
    rw c.in-Err-Refused.field-0-is at c.in-Err-Refused.ensures in
    rw c.in-Err-Refused.field-0-is (refused_at_once (text_task c.args.name.now) c.args.text.now
    c.in-Err-Refused.refusal (g.S.Shelf.state c.args.shelf.now) (g.K.Sink.state c.args.sink.now)
    (λ bytes. OfRefused back))

pub returns-in-Err-Refused-clause-few : goal.returns-in-Err-Refused-clause-few
returns-in-Err-Refused-clause-few g c = λ files told. took_few _ _ _ refl

pub returns-in-Err-Memory-clause-ends : goal.returns-in-Err-Memory-clause-ends
returns-in-Err-Memory-clause-ends g c =
    no_memory (text_task c.args.name.now) c.args.text.now (g.S.Shelf.state c.args.shelf.now)
    (g.K.Sink.state c.args.sink.now)

pub returns-in-Err-Memory-clause-few : goal.returns-in-Err-Memory-clause-few
returns-in-Err-Memory-clause-few g c = λ files told. took_few _ _ _ refl
