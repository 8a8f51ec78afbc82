use Rattle.std.proofs.Common.{ap, ◌∙◌}
use Rattle.trace_text.specs.States.{ReaderState}
use Rattle.net_trace.proofs.EndLemmas.{both_go_on, faults_later, few_not_opened, few_taken, no_memory_yet, open_failed}
use Rattle.net_trace.proofs.EndLemmas.{run_ends, untouched}
use Rattle.net_trace.proofs.run.simulate.Goals as goal

pub returns-in_default-clause-ends : goal.returns-in_default-clause-ends
returns-in_default-clause-ends g c =
    no_memory_yet c.args.net.now c.args.name.now (g.S.Shelf.state c.args.shelf.now) (g.K.Sink.state c.args.sink.now)

pub returns-in_default-clause-few : goal.returns-in_default-clause-few
returns-in_default-clause-few g c = λ files told. untouched _ _

pub returns-in_default-new-clause-ends : goal.returns-in_default-new-clause-ends
returns-in_default-new-clause-ends g c =
    no_memory_yet c.args.net.now c.args.name.now (g.S.Shelf.state c.args.shelf.now) (g.K.Sink.state c.args.sink.now)

pub returns-in_default-new-clause-few : goal.returns-in_default-new-clause-few
returns-in_default-new-clause-few g c = λ files told. untouched _ _

pub returns-in_default-vec-clause-ends : goal.returns-in_default-vec-clause-ends
returns-in_default-vec-clause-ends g c =
    no_memory_yet c.args.net.now c.args.name.now (g.S.Shelf.state c.args.shelf.now) (g.K.Sink.state c.args.sink.now)

pub returns-in_default-vec-clause-few : goal.returns-in_default-vec-clause-few
returns-in_default-vec-clause-few g c = λ files told. untouched _ _

pub returns-in_default-open_slot-clause-ends : goal.returns-in_default-open_slot-clause-ends
returns-in_default-open_slot-clause-ends g c =
    open_failed c.args.net.now c.args.name.now (g.S.Shelf.state c.args.shelf.now)
    (g.S.Shelf.state c.open_slot.new.self) _ c.in_default-open_slot.field-0 c.in_default-open_slot.ensures

pub returns-in_default-open_slot-clause-few : goal.returns-in_default-open_slot-clause-few
returns-in_default-open_slot-clause-few g c = λ files told.
    few_not_opened (g.S.Shelf.state c.args.shelf.now) (g.S.Shelf.state c.open_slot.new.self) c.args.name.now _
    c.in_default-open_slot.field-0 c.in_default-open_slot.ensures

pub returns-clause-goes_on : goal.returns-clause-goes_on
returns-clause-goes_on g c =
    both_go_on _ (g.S.Shelf.state c.open_slot.new.self) _ c.args.name.now c.in-Ok-open_slot.field-0
    c.in-Ok-open_slot.ensures c.run_opened.ensures.reads

pub returns-clause-later : goal.returns-clause-later
returns-clause-later g c =
    faults_later c.args.net.now (g.S.Shelf.state c.open_slot.new.self) (g.S.Shelf.state c.run_opened.new.shelf) _ _
    c.run_opened.result
    (c.run_opened.ensures.ends c.args.net.now c.in-Ok.ensures
    (ap (λ (s : ReaderState). s.ports) c.in-Ok-new.ensures ∙ c.inputs.ensures))

pub returns-clause-ends : goal.returns-clause-ends
returns-clause-ends g c =
    run_ends c.args.net.now c.args.name.now (g.S.Shelf.state c.args.shelf.now) (g.S.Shelf.state c.open_slot.new.self)
    (g.S.Shelf.state c.run_opened.new.shelf) _ _ c.in-Ok-open_slot.field-0 c.run_opened.result
    c.in-Ok-open_slot.ensures c.run_opened.ensures.reads c.run_opened.ensures.failed
    (c.run_opened.ensures.ends c.args.net.now c.in-Ok.ensures
    (ap (λ (s : ReaderState). s.ports) c.in-Ok-new.ensures ∙ c.inputs.ensures))

pub returns-clause-few : goal.returns-clause-few
returns-clause-few g c = λ files told.
    few_taken c.args.net.now c.args.name.now (g.S.Shelf.state c.args.shelf.now)
    (g.S.Shelf.state c.open_slot.new.self) (g.S.Shelf.state c.run_opened.new.shelf) (g.K.Sink.state c.args.sink.now)
    (g.K.Sink.state c.run_opened.new.sink) c.in-Ok-open_slot.field-0 c.run_opened.result c.in-Ok-open_slot.ensures
    c.run_opened.ensures.reads
    (c.run_opened.ensures.ends c.args.net.now c.in-Ok.ensures
    (ap (λ (s : ReaderState). s.ports) c.in-Ok-new.ensures ∙ c.inputs.ensures)) files told
