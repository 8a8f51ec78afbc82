-- Whether a tree may be empty, with its first and last places.
use Rattle.std.specs.Prelude.{◌≡◌}
use Rattle.pbs_ast.specs.Trees.{Tree, nullable}
use Rattle.pbs_edges.specs.Listed.{first_places, last_places}
use Rattle.pbs_edges.specs.declared.ends.Ends.{Ends}

pub record AreEnds (e : Tree) (ends : Ends) : Type 0 where
  pub nullable : ends.nullable ≡ nullable e
  pub firsts : ends.firsts.items ≡ first_places e
  pub lasts : ends.lasts.items ≡ last_places e
