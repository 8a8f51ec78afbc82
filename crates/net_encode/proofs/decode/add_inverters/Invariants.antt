use Rattle.std.proofs.Common.{◌≡◌, length}
use Rattle.net_encode.specs.inner.Drafts.{Grows, HasInverters}
use Rattle.net_encode.proofs.decode.add_inverters.Given as goal

abbrev pub invariant-loop-r : goal.invariant-loop-r
invariant-loop-r l =
    Grows l.fn.draft l.draft l.r 0 × HasInverters l.draft l.r × (length l.draft.gates ≡ l.r)
