use Rattle.std.proofs.Common.{◌≡◌, ◌++◌, drop, map}
use Rattle.net_core.specs.declared.netlist.Output.{Output}
use Rattle.net_trace.proofs.names.output_words.Given as goal

abbrev pub invariant-loop-output : goal.invariant-loop-output
invariant-loop-output l =
    l.words.items ++ map (λ (o : Output). o.name) (drop l.output-index l.outputs)
    ≡ map (λ (o : Output). o.name) l.outputs
