use Rattle.std.proofs.Common.{◌≡◌, ◌-◌, ℕ, List, length}
use Rattle.std.specs.Io.KnownBytes.{prepend_known}
use Rattle.net_trace.specs.inner.Steps.{OnlyReads}
use Rattle.net_trace.proofs.HeadLemmas.{HeaderRead}
use Rattle.net_trace.proofs.header.find_header.Given as goal

abbrev pub invariant-loop-n : goal.invariant-loop-n
invariant-loop-n g l = record {
  long : length l.buffer ≡ 65536;
  reads : OnlyReads (g.S.Shelf.state l.fn.shelf) (g.S.Shelf.state l.shelf);
  done : List ℕ;
  read : HeaderRead l.fn.reader.ports l.reader done;
  taken : ((g.S.Shelf.state l.fn.shelf).slots 1).left
      ≡ prepend_known done ((g.S.Shelf.state l.shelf).slots 1).left;
}

abbrev pub decreases-loop-n : goal.decreases-loop-n
decreases-loop-n g l = 67108865 - l.reader.used
