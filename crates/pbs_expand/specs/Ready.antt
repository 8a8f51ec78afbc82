-- What the expansion asks of a specification, and what it gives besides.
use Rattle.std.specs.Prelude.{◌≤◌, IsTrue, length}
use Rattle.pbs_base.specs.declared.refusal.Span.{Span}
use Rattle.pbs_ast.specs.Trees.{Tree}
use Rattle.pbs_ast.specs.Sound.{inputs_below, actions_below}
use Rattle.pbs_ast.specs.declared.syntax.Spec.{Spec}
use Rattle.pbs_names.specs.Naming.{input_names}
use Rattle.pbs_names.specs.StarsAndScopes.{Rule9, Rule10}

-- neither rule 9 nor rule 10 is broken, and there are few enough inputs and actions
pub record IsReady (spec : Spec) : Type 0 where
  pub inputs : length (input_names spec.inputs) ≤ 64
  pub actions : length spec.actions ≤ 64
  pub rule_9 : (span : Span) → Rule9 spec span → ⊥
  pub rule_10 : (span : Span) → Rule10 spec span → ⊥

-- the tree names declared inputs and actions alone
pub record NamesDeclared (spec : Spec) (tree : Tree) : Type 0 where
  pub inputs : IsTrue (inputs_below (length (input_names spec.inputs)) tree)
  pub actions : IsTrue (actions_below (length spec.actions) tree)
