-- The index of a specification that has few enough inputs and actions.
use Rattle.std.specs.Prelude.{◌≤◌, length}
use Rattle.pbs_ast.specs.declared.syntax.Spec.{Spec}
use Rattle.pbs_names.specs.declared.index.Index.{Index}
use Rattle.pbs_names.specs.Naming.{input_names, action_names, prod_names}
use Rattle.pbs_names.specs.Numbers.{IsNumbering}

pub record Serves (spec : Spec) (index : Index) : Type 0 where
  pub inputs : IsNumbering (input_names spec.inputs) index.inputs
  pub actions : IsNumbering (action_names spec.actions) index.actions
  pub prods : IsNumbering (prod_names spec.prods) index.prods
  pub few_inputs : length (input_names spec.inputs) ≤ 64
  pub few_actions : length (action_names spec.actions) ≤ 64
