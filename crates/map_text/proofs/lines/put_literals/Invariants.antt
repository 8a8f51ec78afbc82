use Rattle.std.proofs.Common.{◌≡◌, ◌++◌, drop}
use Rattle.map_text.specs.Maps.{literals_text}
use Rattle.map_text.proofs.lines.put_literals.Given as goal

abbrev pub invariant-loop-literal : goal.invariant-loop-literal
invariant-loop-literal l =
    l.text.items ++ literals_text (drop l.literal-index l.literals) ≡ l.fn.text.items ++ literals_text l.literals
