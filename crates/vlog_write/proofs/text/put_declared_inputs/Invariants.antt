use Rattle.std.proofs.Common.{◌≡◌, ◌++◌, codes, drop}
use Rattle.std.specs.List.{flat_map}
use Rattle.vlog_text.specs.Emitted.{declared}
use Rattle.vlog_write.proofs.text.put_declared_inputs.Given as goal

abbrev pub invariant-loop-n : goal.invariant-loop-n
invariant-loop-n l =
    l.text.items ++ flat_map (declared (codes "input")) (drop l.n l.inputs)
    ≡ l.fn.text.items ++ flat_map (declared (codes "input")) l.inputs
