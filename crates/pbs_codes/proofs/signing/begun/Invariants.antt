use Rattle.std.proofs.Common.{◌≡◌, ℕ, ◌<◌, false, [], length}
use Rattle.std.specs.Prelude.{slice_index_or}
use Rattle.pbs_codes.specs.inner.Signatures.{start_number}
use Rattle.pbs_codes.proofs.signing.begun.Given as goal

abbrev pub invariant-loop-flag : goal.invariant-loop-flag
invariant-loop-flag l = (length (l.all).items ≡ l.flag-index)
    × ((p : ℕ) → p < l.flag-index → slice_index_or (l.all).items p [] ≡ start_number (slice_index_or l.flags p false))
