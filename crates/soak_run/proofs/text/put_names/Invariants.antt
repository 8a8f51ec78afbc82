use Rattle.std.proofs.Common.{◌≡◌, ◌++◌}
use Rattle.soak_run.specs.Soaks.{names_text}
use Rattle.soak_run.proofs.text.put_names.Given as goal

abbrev pub invariant-loop-i : goal.invariant-loop-i
invariant-loop-i l = l.text.items ≡ l.fn.text.items ++ names_text l.i
