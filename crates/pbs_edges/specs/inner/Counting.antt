-- How many first places, last places and follow edges a tree has.
use Rattle.std.specs.Prelude.{◌≡◌, ◌≤◌, length, min}
use Rattle.pbs_ast.specs.Trees.{Tree, nullable}
use Rattle.pbs_ast.specs.Sound.{place_count}
use Rattle.pbs_edges.specs.Listed.{first_places, last_places, follow_edges}
use Rattle.pbs_edges.specs.declared.counts.Counts.{Counts}

-- few enough to be added and multiplied
pub record AreFew (c : Counts) : Type 0 where
  pub firsts : c.firsts ≤ 4096
  pub lasts : c.lasts ≤ 4096
  pub follows : c.follows ≤ 16385

-- the counts are those of the tree; of edges over the limit no more than one is counted
pub record AreCounts (e : Tree) (c : Counts) : Type 0 where
  pub nullable : c.nullable ≡ nullable e
  pub firsts : c.firsts ≡ length (first_places e)
  pub lasts : c.lasts ≡ length (last_places e)
  pub follows : c.follows ≡ min (length (follow_edges e)) 16385
  pub few_firsts : c.firsts ≤ place_count e
  pub few_lasts : c.lasts ≤ place_count e
