use Rattle.std.proofs.Common.{take}
use Rattle.pbs_codes.specs.inner.Signatures.{AreSignatures}
use Rattle.pbs_codes.proofs.signing.signatures.Given as goal

abbrev pub invariant-loop-edge : goal.invariant-loop-edge
invariant-loop-edge l = AreSignatures l.starts (take l.edge-index l.follows) l.places (l.all).items
