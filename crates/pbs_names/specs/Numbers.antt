-- The numbers of names, as the index has them.
use Rattle.std.specs.Prelude.{◌≡◌, ℕ, ◌==◌, List, Option}
use Rattle.std.specs.HashMap.{get}
use Rattle.std.specs.Cmp.Lexicographic.{pointwise}
use Rattle.pbs_ast.specs.declared.syntax.Spec.{Spec}
use Rattle.pbs_names.specs.Naming.{index_of, input_names, action_names, prod_names}
use Rattle.pbs_names.specs.declared.index.Numbers.{Numbers}
use Rattle.pbs_names.specs.declared.index.Index.{Index}

abbrev pub number_in : Numbers → List ℕ → Option ℕ
number_in numbers name = get (pointwise ◌==◌) numbers.firsts name

-- each name has the number of its first place in the list
pub record IsNumbering (names : List (List ℕ)) (numbers : Numbers) : Type 0 where
  pub finds : (name : List ℕ) → number_in numbers name ≡ index_of names name

pub record IsIndexOf (spec : Spec) (index : Index) : Type 0 where
  pub inputs : IsNumbering (input_names spec.inputs) index.inputs
  pub actions : IsNumbering (action_names spec.actions) index.actions
  pub prods : IsNumbering (prod_names spec.prods) index.prods
