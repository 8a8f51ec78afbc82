use Rattle.pbs_read.proofs.DeclExits.{width_none, width_read, width_stops, no_width_front}
use Rattle.pbs_read.proofs.decls.width.Goals as goal

pub returns-in_default-clause-ok : goal.returns-in_default-clause-ok
returns-in_default-clause-ok c = width_none _ _ _ c.in_default.ensures.none

pub returns-in_default-front-clause-err : goal.returns-in_default-front-clause-err
returns-in_default-front-clause-err c =
    rw c.stop.ensures
    (width_stops c.args.two c.args.end c.args.tokens.now c.in-Some.behind_colon.now c.in-Some.field-0-0
    c.in-Some.ensures.version c.in-Some.ensures.taken (rw c.in_default-front.ensures tt))

pub returns-in-Some-width_number-clause-ok : goal.returns-in-Some-width_number-clause-ok
returns-in-Some-width_number-clause-ok c =
    width_read _ _ _ _ _ c.in-Some.field-0-0 c.in-Some-front.first _ c.in-Some.ensures.version c.in-Some.ensures.taken
    c.in-Some-front.ensures c.in-Some-width_number.ensures

pub returns-in-None-clause-err : goal.returns-in-None-clause-err
returns-in-None-clause-err c =
    rw c.stop-in-None.ensures
    (width_stops c.args.two c.args.end c.args.tokens.now c.in-Some.behind_colon.now c.in-Some.field-0-0
    c.in-Some.ensures.version c.in-Some.ensures.taken
    (no_width_front c.in-Some.behind_colon.now c.in-Some-front.rest.now c.in-Some-front.first c.in-Some-front.ensures
    c.in-None.ensures))
