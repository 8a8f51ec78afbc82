use Rattle.std.proofs.Common.{◌*◌, take}
use Rattle.net_encode.specs.inner.Drafts.{Grows, TellsAll}
use Rattle.net_encode.proofs.decode.add_codes.Given as goal

abbrev pub invariant-loop-p : goal.invariant-loop-p
invariant-loop-p l = Grows l.fn.draft l.draft (3 * l.p) 0 × TellsAll l.draft (take l.p l.codes) l.wires
