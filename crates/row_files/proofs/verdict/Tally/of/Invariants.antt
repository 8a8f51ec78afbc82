-- The count so far is that of the verdicts so far.
use Rattle.std.proofs.Common.{◌≡◌, take}
use Rattle.std.specs.List.{count_by}
use Rattle.row_files.specs.Verdicts.{differs}
use Rattle.row_files.proofs.verdict.Tally.of.Given as goal

abbrev pub invariant-loop-verdict : goal.invariant-loop-verdict
invariant-loop-verdict l = l.differ ≡ count_by differs (take l.verdict-index l.verdicts)
