use Rattle.pbs_ast.proofs.Items.{ok_then}
use Rattle.pbs_ast.specs.Bare.{bare_term}
use Rattle.pbs_descent.proofs.TermExits.{unit_named, named_ok}
use Rattle.pbs_descent.proofs.terms.named.Goals as goal

pub returns-in-Some-clause-ok : goal.returns-in-Some-clause-ok
returns-in-Some-clause-ok c =
    ok_then c.comparison.result c.comparison.ensures.ok
    (λ x r depth. named_ok c.args.two c.args.bytes.now c.args.end depth c.args.name c.in-Some.field-0-0 c.args.rest.now
    c.in-Some.rest.now x.1.now (bare_term x.0) c.in-Some.ensures.taken (r c.in-Some.field-0-0 depth))

pub returns-in_ok-word-in-None-clause-ok : goal.returns-in_ok-word-in-None-clause-ok
returns-in_ok-word-in-None-clause-ok c depth =
    unit_named c.args.two c.args.bytes.now c.args.end depth c.args.name c.in_ok-word-in-None.field-0 c.args.rest.now
    c.in-None.ensures.none c.in_ok-word-in-None.ensures.value
