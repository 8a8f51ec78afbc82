use Rattle.std.proofs.Common.{◌≡◌, ◌++◌, drop}
use Rattle.std.specs.List.{flat_map}
use Rattle.vlog_text.specs.Emitted.{listed}
use Rattle.vlog_write.proofs.text.put_listed_inputs.Given as goal

abbrev pub invariant-loop-n : goal.invariant-loop-n
invariant-loop-n l =
    l.text.items ++ flat_map listed (drop l.n l.inputs) ≡ l.fn.text.items ++ flat_map listed l.inputs
