-- Which trees have places that share registers.
use Rattle.std.specs.Prelude.{◌<◌, ◌≤◌, length}
use Rattle.pbs_ast.specs.Trees.{Tree}
use Rattle.pbs_edges.specs.Found.{HasFewTerms, HasManyTerms}
use Rattle.pbs_edges.specs.Listed.{follow_edges}
use Rattle.net_core.specs.declared.codes.CodePlan.{CodePlan}
use Rattle.net_core.specs.Plans.{IsWhole}
use Rattle.pbs_codes.specs.Plans.{IsCodePlan}
use Rattle.pbs_codes.specs.Runs.{FitsRuns}

-- the places share registers by this plan: the tree keeps both limits
pub record IsSharedBy (main : Tree) (plan : CodePlan) : Type 0 where
  pub few_edges : length (follow_edges main) ≤ 16384
  pub few_terms : HasFewTerms main 256
  pub planned : IsCodePlan main plan
  pub fits : FitsRuns main plan
  pub whole : IsWhole plan

-- each place keeps a register of its own: the tree is past one of the limits
pub data KeepsRegisters (main : Tree) : Type 0 where
  OfManyEdges : 16384 < length (follow_edges main) → KeepsRegisters main
  OfManyTerms : length (follow_edges main) ≤ 16384 → HasManyTerms main 256 → KeepsRegisters main
