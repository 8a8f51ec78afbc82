use Rattle.std.proofs.Common.{ap}
use Rattle.pbs_cli.proofs.TopLemmas.{top_ends}
use Rattle.pbs_cli.proofs.top.run.Goals as goal

pub returns-clause-range : goal.returns-clause-range
returns-clause-range g c =
    let top = top_ends _ _ _ _ _ c.perform.result c.perform.ensures.usage.0
    (λ is. let kept = c.perform.ensures.untouched is in (ap g.S.Shelf.state kept.0, ap g.K.Sink.state kept.1))
    c.perform.ensures.ends in
    rw c.code.ensures top.range

pub returns-clause-answered : goal.returns-clause-answered
returns-clause-answered g c =
    let top = top_ends _ _ _ _ _ c.perform.result c.perform.ensures.usage.0
    (λ is. let kept = c.perform.ensures.untouched is in (ap g.S.Shelf.state kept.0, ap g.K.Sink.state kept.1))
    c.perform.ensures.ends in
    rw c.code.ensures top.answered

pub returns-clause-ended : goal.returns-clause-ended
returns-clause-ended g c =
    let top = top_ends _ _ _ _ _ c.perform.result c.perform.ensures.usage.0
    (λ is. let kept = c.perform.ensures.untouched is in (ap g.S.Shelf.state kept.0, ap g.K.Sink.state kept.1))
    c.perform.ensures.ends in
    rw c.code.ensures top.ended

pub returns-clause-read : goal.returns-clause-read
returns-clause-read g c =
    let top = top_ends _ _ _ _ _ c.perform.result c.perform.ensures.usage.0
    (λ is. let kept = c.perform.ensures.untouched is in (ap g.S.Shelf.state kept.0, ap g.K.Sink.state kept.1))
    c.perform.ensures.ends in
    rw c.code.ensures top.read

pub returns-clause-needs : goal.returns-clause-needs
returns-clause-needs g c =
    let top = top_ends _ _ _ _ _ c.perform.result c.perform.ensures.usage.0
    (λ is. let kept = c.perform.ensures.untouched is in (ap g.S.Shelf.state kept.0, ap g.K.Sink.state kept.1))
    c.perform.ensures.ends in
    rw c.code.ensures top.needs

pub returns-clause-never : goal.returns-clause-never
returns-clause-never g c =
    let top = top_ends _ _ _ _ _ c.perform.result c.perform.ensures.usage.0
    (λ is. let kept = c.perform.ensures.untouched is in (ap g.S.Shelf.state kept.0, ap g.K.Sink.state kept.1))
    c.perform.ensures.ends in
    rw c.code.ensures top.never

pub returns-clause-write : goal.returns-clause-write
returns-clause-write g c =
    let top = top_ends _ _ _ _ _ c.perform.result c.perform.ensures.usage.0
    (λ is. let kept = c.perform.ensures.untouched is in (ap g.S.Shelf.state kept.0, ap g.K.Sink.state kept.1))
    c.perform.ensures.ends in
    rw c.code.ensures top.write

pub returns-clause-front : goal.returns-clause-front
returns-clause-front g c =
    let top = top_ends _ _ _ _ _ c.perform.result c.perform.ensures.usage.0
    (λ is. let kept = c.perform.ensures.untouched is in (ap g.S.Shelf.state kept.0, ap g.K.Sink.state kept.1))
    c.perform.ensures.ends in
    rw c.code.ensures top.front

pub returns-clause-memory : goal.returns-clause-memory
returns-clause-memory g c =
    let top = top_ends _ _ _ _ _ c.perform.result c.perform.ensures.usage.0
    (λ is. let kept = c.perform.ensures.untouched is in (ap g.S.Shelf.state kept.0, ap g.K.Sink.state kept.1))
    c.perform.ensures.ends in
    rw c.code.ensures top.memory

pub returns-clause-stopped : goal.returns-clause-stopped
returns-clause-stopped g c =
    let top = top_ends _ _ _ _ _ c.perform.result c.perform.ensures.usage.0
    (λ is. let kept = c.perform.ensures.untouched is in (ap g.S.Shelf.state kept.0, ap g.K.Sink.state kept.1))
    c.perform.ensures.ends in
    rw c.code.ensures top.stopped

pub returns-clause-little : goal.returns-clause-little
returns-clause-little g c =
    let top = top_ends _ _ _ _ _ c.perform.result c.perform.ensures.usage.0
    (λ is. let kept = c.perform.ensures.untouched is in (ap g.S.Shelf.state kept.0, ap g.K.Sink.state kept.1))
    c.perform.ensures.ends in
    rw c.code.ensures top.little

pub returns-clause-first : goal.returns-clause-first
returns-clause-first g c =
    let top = top_ends _ _ _ _ _ c.perform.result c.perform.ensures.usage.0
    (λ is. let kept = c.perform.ensures.untouched is in (ap g.S.Shelf.state kept.0, ap g.K.Sink.state kept.1))
    c.perform.ensures.ends in
    top.first

pub returns-clause-few : goal.returns-clause-few
returns-clause-few g c =
    let top = top_ends _ _ _ _ _ c.perform.result c.perform.ensures.usage.0
    (λ is. let kept = c.perform.ensures.untouched is in (ap g.S.Shelf.state kept.0, ap g.K.Sink.state kept.1))
    c.perform.ensures.ends in
    top.few

pub returns-clause-second : goal.returns-clause-second
returns-clause-second g c =
    let top = top_ends _ _ _ _ _ c.perform.result c.perform.ensures.usage.0
    (λ is. let kept = c.perform.ensures.untouched is in (ap g.S.Shelf.state kept.0, ap g.K.Sink.state kept.1))
    c.perform.ensures.ends in
    top.second

pub returns-clause-complete : goal.returns-clause-complete
returns-clause-complete g c =
    let top = top_ends _ _ _ _ _ c.perform.result c.perform.ensures.usage.0
    (λ is. let kept = c.perform.ensures.untouched is in (ap g.S.Shelf.state kept.0, ap g.K.Sink.state kept.1))
    c.perform.ensures.ends in
    rw c.code.ensures top.complete
