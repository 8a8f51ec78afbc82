use Rattle.std.proofs.Common.{◌≡◌, ℕ, ◌<◌, false, take, length}
use Rattle.std.specs.Prelude.{slice_index_or}
use Rattle.pbs_codes.specs.inner.Signatures.{is_start}
use Rattle.pbs_codes.proofs.signing.start_flags.Given as goal

abbrev pub invariant-loop-start : goal.invariant-loop-start
invariant-loop-start l = (length (l.flags).items ≡ l.places)
    × ((p : ℕ) → p < l.places → slice_index_or (l.flags).items p false ≡ is_start (take l.start-index l.starts) p)
