use Rattle.std.proofs.Common.{arith}
use Rattle.std.proofs.lemmas.Grind.{common_steps}
use Rattle.pbs_io.proofs.ReadLemmas.{nothing_read, one_read_more, read_whole, read_too_long, read_fault}
use Rattle.pbs_io.proofs.ReadLemmas.{read_no_memory, read_but_no_memory}
use Rattle.pbs_io.proofs.read.read_all.Goals as goal

pub returns-in_default-clause-reads : goal.returns-in_default-clause-reads
returns-in_default-clause-reads g c = read_no_memory _ _ _ _ _ (nothing_read _ _ _ c.requires.empty) c.requires.empty

pub loop-out-init : goal.loop-out-init
loop-out-init g c = record {
  so_far = nothing_read _ _ _ c.requires.empty;
  short = grind (arith, common_steps);
  piece
      = grind (arith, common_steps);
}

pub returns-in-Err-clause-reads : goal.returns-in-Err-clause-reads
returns-in-Err-clause-reads g c = read_fault _ _ _ _ _ _ c.read_front.new.piece c.in-Err.field-0
    c.loop-out.invariant.so_far (omega arith) c.in-Err.ensures.reads

pub returns-in-Ok-eq0-clause-reads : goal.returns-in-Ok-eq0-clause-reads
returns-in-Ok-eq0-clause-reads g c = read_whole _ _ _ _ _ _ _ c.read_front.new.piece _ c.loop-out.invariant.so_far
    c.in-Ok-eq0.ensures.reads c.in-Ok-eq0.field-0-test (omega arith)

pub returns-then-is_err-clause-reads : goal.returns-then-is_err-clause-reads
returns-then-is_err-clause-reads g c = read_but_no_memory _ _ _ _ _ _ c.read_front.new.piece _ _
    c.loop-out.invariant.so_far c.in-Ok-read_front.ensures.reads (omega (arith, c.in-Ok-read_front.ensures.at_most))
    (grind (arith, common_steps))

pub loop-out-preserved : goal.loop-out-preserved
loop-out-preserved g c = record {
  so_far = one_read_more _ _ _ _ _ c.read_front.new.piece _ c.in-Ok-read_front.n c.loop-out.invariant.so_far
      c.in-Ok-read_front.ensures.reads (grind (arith, common_steps));
  short = grind (arith, common_steps);
  piece = grind (arith, common_steps);
}

pub returns-clause-reads : goal.returns-clause-reads
returns-clause-reads g c = read_too_long _ _ _ _ c.loop-out.out.items _ c.loop-out.invariant.so_far (omega arith)
    (omega arith) (grind (arith, common_steps))
