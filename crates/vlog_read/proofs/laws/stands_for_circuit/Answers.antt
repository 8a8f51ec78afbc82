use Rattle.std.proofs.Common.{sym, subst}
use Rattle.net_core.specs.Circuits.{IsCircuit}
use Rattle.vlog_text.specs.Trees.{raw_of}
use Rattle.vlog_read.proofs.laws.stands_for_circuit.Goals as goal

pub returns : goal.returns
returns c bytes net stands =
    let raw = c.read_is_raw.ensures bytes stands.phrase stands.is_read in
    subst IsCircuit (sym stands.net_is)
    (c.unbroken_is_circuit.ensures (raw_of bytes stands.phrase) raw stands.unbroken)
