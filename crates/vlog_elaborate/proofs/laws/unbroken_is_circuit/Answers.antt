use Rattle.vlog_elaborate.proofs.Circuit.{unbroken_circuit}
use Rattle.vlog_elaborate.proofs.laws.unbroken_is_circuit.Goals as goal

pub returns : goal.returns
returns c = unbroken_circuit
