use Rattle.std.proofs.Common.{◌≡◌, map, take}
use Rattle.net_eval.specs.inner.Flat.{AreFlat, ArePins, kind_of}
use Rattle.net_eval.proofs.flat.lay_out.Given as goal

-- the gates so far are laid out
abbrev pub invariant-loop-n : goal.invariant-loop-n
invariant-loop-n l = record {
  kinds : l.kinds.items ≡ map kind_of (take l.n l.gates);
  pins : AreFlat (ArePins l.gates) l.n l.starts.items l.pins.items;
}
