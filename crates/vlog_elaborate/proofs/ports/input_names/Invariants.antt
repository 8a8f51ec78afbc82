use Rattle.std.proofs.Common.{◌≡◌, map, filter, take}
use Rattle.vlog_text.specs.declared.raw.RawName.{RawName}
use Rattle.vlog_names.specs.Numbers.{names_input}
use Rattle.vlog_elaborate.proofs.ports.input_names.Given as goal

abbrev pub invariant-loop-name : goal.invariant-loop-name
invariant-loop-name l =
    l.names ≡ map (λ (n : RawName). n.word)
    (filter (λ (n : RawName). names_input l.numbers n.word) (take l.name-index l.ports))
