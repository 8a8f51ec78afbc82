use Rattle.net_equiv.specs.Told.{IsNarrow}
use Rattle.net_equiv.specs.inner.Naming.{AreRoom}
use Rattle.net_equiv.proofs.Finding.{HoldsBelow, IsFirstBelow}
use Rattle.net_equiv.proofs.comparing.compare_all.Given as goal

-- so far none is wide, and the first difference is found
abbrev pub invariant-loop-c : goal.invariant-loop-c
invariant-loop-c l = record {
  narrow : HoldsBelow l.a l.b l.partners.pairs.now (IsNarrow l.a l.b l.partners.pairs.now) l.c-index;
  clear : AreRoom l.a l.b l.cones;
  first : IsFirstBelow l.a l.b l.partners.pairs.now l.c-index l.found;
}
