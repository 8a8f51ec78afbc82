use Rattle.std.proofs.Common.{◌≡◌, false, take}
use Rattle.trace_text.specs.inner.Names.{has_byte}
use Rattle.trace_text.proofs.names.front_length.Given as goal

abbrev pub invariant-loop-n : goal.invariant-loop-n
invariant-loop-n l = has_byte l.byte (take l.n l.text) ≡ false
