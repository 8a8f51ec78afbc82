use Rattle.pbs_machine.proofs.Nodes.{each_right}
use Rattle.pbs_machine.proofs.each_node_is_right.Goals as goal

pub returns : goal.returns
returns c = each_right
