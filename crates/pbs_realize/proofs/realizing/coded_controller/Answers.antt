use Rattle.std.proofs.Common.{arith}
use Rattle.std.proofs.lemmas.Result.{IfOk-weaker}
use Rattle.pbs_ast.specs.Bare.{bare}
use Rattle.pbs_ast.specs.Trees.{tree_of}
use Rattle.pbs_realize.proofs.CodedLemmas.{is_coded}
use Rattle.pbs_realize.proofs.realizing.coded_controller.Goals as goal

pub coded-requires-clause-registers : goal.coded-requires-clause-registers
coded-requires-clause-registers c = let count = c.in_ok-own.ensures.net.registers in omega arith

pub returns : goal.returns
returns c =
    IfOk-weaker c.coded.result _ _
    (λ made recodes. is_coded c.overlap_rule_is_sound.ensures.no_overlap (bare c.args.spec.now)
    (tree_of c.args.main.now.tree) c.in_ok-own.own.net c.args.main.now.sound.counted.scopes_numbered
    c.requires.scopes c.in_ok-own.ensures.net made.net made.map recodes)
    c.coded.ensures
