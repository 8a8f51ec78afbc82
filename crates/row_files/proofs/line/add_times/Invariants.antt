-- So far the bytes were added once for each turn.
use Rattle.std.proofs.Common.{◌≡◌, ◌++◌}
use Rattle.row_files.specs.inner.Texts.{times}
use Rattle.row_files.proofs.line.add_times.Given as goal

abbrev pub invariant-loop-done : goal.invariant-loop-done
invariant-loop-done l = l.out.items ≡ l.initial.out.items ++ times l._done l.bytes
