use Rattle.pbs_ast.specs.Trees.{tree_of}
use Rattle.std.proofs.lemmas.Result.{IfOk-weaker}
use Rattle.pbs_explain.specs.inner.Charts.{IsChart, Tells}
use Rattle.std.proofs.Common.{length}
use Rattle.pbs_explain.proofs.Steps.{step_tells}
use Rattle.pbs_explain.proofs.charts.chart_for.Goals as goal

pub returns : goal.returns
returns c =
    let a = c.args in
    let e = tree_of a.tree.now in
    IfOk-weaker c.make_chart.result (IsChart c.in_ok-step.step (length a.run.now)) (Tells a.run.now a.action e)
    (λ t h. step_tells a.run.now a.action e c.in_ok-step.step t c.in_ok-step.ensures h) c.make_chart.ensures
