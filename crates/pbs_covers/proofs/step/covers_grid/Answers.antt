use Rattle.std.proofs.Common.{◌≡◌, length, [], ◌∷◌, ◌++◌, ap, arith, rules}
use Rattle.std.proofs.lemmas.List.{length_push}
use Rattle.pbs_covers.proofs.Grids.{grows}
use Rattle.pbs_covers.proofs.step.covers_grid.Goals as goal

pub loop-back-preserved : goal.loop-back-preserved
loop-back-preserved c =
    let grown : c.push.new.self ≡ c.loop-back.grid ++ c.in_ok-row.row ∷ [] = search rules in
    let kept = c.loop-back.invariant in
    record {
      filled = omega (arith, ap length grown, length_push c.loop-back.grid c.in_ok-row.row, kept.filled);
      exact = rw grown (grows c.args.step.now c.args.n c.loop-back.back c.loop-back.grid c.in_ok-row.row
          (omega arith) kept.filled kept.exact (search rules));
    }
