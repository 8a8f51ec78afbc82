use Rattle.std.proofs.lemmas.Result.{IfOk-weaker}
use Rattle.pbs_ast.specs.Bare.{bare}
use Rattle.pbs_ast.specs.Trees.{tree_of}
use Rattle.pbs_realize.proofs.RealizeLemmas.{realizes, coded_stands}
use Rattle.pbs_realize.proofs.realizing.realize.Goals as goal

pub returns-clause-realizes : goal.returns-clause-realizes
returns-clause-realizes c =
    IfOk-weaker c.tidy_controller.result _ _
    (λ made coded. realizes (bare c.args.spec.now) (tree_of c.args.main.now.tree) made.net made.map c.requires.tree
    coded)
    c.tidy_controller.ensures

pub returns-clause-stands : goal.returns-clause-stands
returns-clause-stands c = λ text read.
    IfOk-weaker c.tidy_controller.result _ _
    (λ made coded. coded_stands c.emitted_stands.ensures (bare c.args.spec.now) (tree_of c.args.main.now.tree) made.net
    made.map c.requires.tree c.requires.unbroken c.requires.within
    (c.within_limits.ensures.actions (bare c.args.spec.now) c.requires.unbroken)
    (c.within_limits.ensures.levels (bare c.args.spec.now) c.requires.unbroken) coded text read)
    c.tidy_controller.ensures
