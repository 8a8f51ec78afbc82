use Rattle.pbs_ast.proofs.Items.{ok_then}
use Rattle.pbs_read.proofs.TextExits.{decl_inputs, decl_names, decl_level, decl_prod}
use Rattle.pbs_read.proofs.spec.decl.Goals as goal

pub returns-in-OfInput-clause-ok : goal.returns-in-OfInput-clause-ok
returns-in-OfInput-clause-ok c =
    rw c.in-OfInput.is
    (ok_then c.inputs.result c.inputs.ensures.ok
    (λ x r. decl_inputs c.args.two c.args.bytes.now c.args.end c.args.tokens.now x.now c.args.lists.now
    c.inputs.new.list r))

pub returns-in-OfAction-clause-ok : goal.returns-in-OfAction-clause-ok
returns-in-OfAction-clause-ok c =
    rw c.in-OfAction.is
    (ok_then c.names.result c.names.ensures.ok
    (λ x r. decl_names c.args.two c.args.bytes.now c.args.end c.args.tokens.now x.now c.args.lists.now
    c.names.new.list r))

pub returns-in_ok-push-in-OfLevel-clause-ok : goal.returns-in_ok-push-in-OfLevel-clause-ok
returns-in_ok-push-in-OfLevel-clause-ok c =
    rw c.in-OfLevel.is
    (decl_level c.args.two c.args.bytes.now c.args.end c.args.tokens.now c.in_ok-found-in-OfLevel.rest.now
    c.args.lists.now c.push.new.self c.in_ok-found-in-OfLevel.found c.in_ok-push-in-OfLevel.ensures.ok
    c.in_ok-found-in-OfLevel.ensures.ok)

pub returns-in_ok-push-in-OfProd-clause-ok : goal.returns-in_ok-push-in-OfProd-clause-ok
returns-in_ok-push-in-OfProd-clause-ok c =
    rw c.in-OfProd.is
    (decl_prod c.args.two c.args.bytes.now c.args.end c.args.tokens.now c.in_ok-found-in-OfProd.rest.now
    c.args.lists.now c.push-in-OfProd.new.self c.in_ok-found-in-OfProd.found c.in_ok-push-in-OfProd.ensures.ok
    c.in_ok-found-in-OfProd.ensures.ok)
