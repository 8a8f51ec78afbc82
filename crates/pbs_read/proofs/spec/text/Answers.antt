use Rattle.pbs_ast.specs.Bare.{bare_expr}
use Rattle.pbs_read.specs.inner.TextDescent.{bare_lists}
use Rattle.pbs_read.proofs.TextExits.{text_read}
use Rattle.pbs_read.proofs.spec.text.Goals as goal

pub returns-clause-ok : goal.returns-clause-ok
returns-clause-ok c = text_read _ _ _ _ _ _ (bare_lists c.in_ok-lists.lists)
    (bare_expr c.in_ok-main.main) _ c.spec_of.ensures c.in_ok-two.ensures.ok c.in_ok-lists.ensures.ok
    c.in_ok-main.ensures.ok
