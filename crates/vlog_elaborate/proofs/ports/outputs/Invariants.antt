use Rattle.std.proofs.Common.{◌≡◌, map, filter, take}
use Rattle.vlog_text.specs.declared.raw.RawName.{RawName}
use Rattle.vlog_names.specs.Numbers.{names_output}
use Rattle.vlog_elaborate.specs.inner.Parts.{output_at}
use Rattle.vlog_elaborate.proofs.ports.outputs.Given as goal

abbrev pub invariant-loop-name : goal.invariant-loop-name
invariant-loop-name l =
    l.outputs ≡ map (output_at l.numbers l.places)
    (filter (λ (n : RawName). names_output l.numbers n.word) (take l.name-index l.ports))
