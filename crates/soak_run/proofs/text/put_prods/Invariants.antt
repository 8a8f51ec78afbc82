use Rattle.std.proofs.Common.{◌≡◌, ◌++◌}
use Rattle.soak_run.specs.Soaks.{prods_text}
use Rattle.soak_run.proofs.text.put_prods.Given as goal

abbrev pub invariant-loop-i : goal.invariant-loop-i
invariant-loop-i l = l.text.items ≡ l.fn.text.items ++ prods_text l.i
