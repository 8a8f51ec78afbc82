use Rattle.std.proofs.Common.{◌≡◌, ◌++◌, codes, drop, map}
use Rattle.std.specs.List.{flat_map}
use Rattle.net_core.specs.declared.netlist.Output.{Output}
use Rattle.vlog_text.specs.Emitted.{declared}
use Rattle.vlog_write.proofs.text.put_declared_outputs.Given as goal

abbrev pub invariant-loop-output : goal.invariant-loop-output
invariant-loop-output l =
    l.text.items ++ flat_map (declared (codes "output")) (map (λ (o : Output). o.name) (drop l.output-index l.outputs))
    ≡ l.fn.text.items ++ flat_map (declared (codes "output")) (map (λ (o : Output). o.name) l.outputs)
