-- What `==` answers at the keys of the tables, by a name for clauses.
use Rattle.std.specs.Prelude.{Bool}
use Rattle.bool_bdd.specs.declared.node.Node.{Node}
use Rattle.bool_bdd.specs.declared.node.Branch.{Branch}
use Rattle.bool_bdd.specs.declared.node.Choice.{Choice}
use Rattle.bool_bdd.specs.declared.node.Pair.{Pair}
use Rattle.bool_bdd.specs.contracts.node.NodePartialEq.TheImpl as node_block
use Rattle.bool_bdd.specs.contracts.node.BranchPartialEq.TheImpl as branch_block
use Rattle.bool_bdd.specs.contracts.node.ChoicePartialEq.TheImpl as choice_block
use Rattle.bool_bdd.specs.contracts.node.PairPartialEq.TheImpl as pair_block

abbrev pub branch_eq : Branch → Branch → Bool
branch_eq = (branch_block.ghosts).eq

abbrev pub choice_eq : Choice → Choice → Bool
choice_eq = (choice_block.ghosts).eq

abbrev pub pair_eq : Pair → Pair → Bool
pair_eq = (pair_block.ghosts).eq

abbrev pub node_eq : Node → Node → Bool
node_eq = (node_block.ghosts).eq
