-- What the front hands on.
use Rattle.std.specs.Prelude.{◌≡◌, ℕ, List, Result, Ok, Err}
use Rattle.pbs_ast.specs.Trees.{tree_of}
use Rattle.pbs_ast.specs.Bare.{bare}
use Rattle.pbs_expand.specs.Expanded.{expanded}
use Rattle.pbs_expand.specs.Ready.{NamesDeclared}
use Rattle.pbs_engine.specs.Accepted.{Breaks, IsAccepted}
use Rattle.pbs_engine.specs.declared.fail.EngineFail.{EngineFail}
use Rattle.pbs_engine.specs.declared.fail.EngineFail.TheVariants as fails
use Rattle.pbs_engine.specs.declared.front.Accepted.{Accepted}

-- the text is accepted as the specification, with its boxes at one place, and this is its tree
pub record IsAcceptedAs (text : List ℕ) (found : Accepted) : Type 0 where
  pub accepted : IsAccepted text (bare found.spec)
  pub tree : tree_of found.main.tree ≡ expanded (bare found.spec)
  pub names : NamesDeclared found.spec (tree_of found.main.tree)

abbrev pub Accepts : List ℕ → Result Accepted EngineFail → Type 0
Accepts text (Ok found) = IsAcceptedAs text found
Accepts text (Err (fails.Refused r)) = Breaks text r
Accepts text (Err fails.Memory) = Unit {0}
