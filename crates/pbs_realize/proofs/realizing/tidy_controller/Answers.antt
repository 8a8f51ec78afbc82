use Rattle.std.proofs.Common.{subst, sym}
use Rattle.std.proofs.lemmas.Result.{IfOk-weaker}
use Rattle.pbs_ast.specs.Bare.{bare}
use Rattle.pbs_ast.specs.Trees.{tree_of}
use Rattle.pbs_realize.specs.inner.Coding.{IsCoded}
use Rattle.pbs_realize.proofs.TidiedLemmas.{is_tidied}
use Rattle.pbs_realize.proofs.realizing.tidy_controller.Goals as goal

pub returns : goal.returns
returns c =
    let spec = bare c.args.spec.now in
    let tree = tree_of c.args.main.now.tree in
    let coded = c.in_ok-coded.coded in
    IfOk-weaker c.tidied.result _ _
    (λ made both. subst (IsCoded 2 spec tree made.net) (sym both.1)
    (is_tidied spec tree coded.net made.net coded.map c.in_ok-coded.ensures both.0))
    c.tidied.ensures
