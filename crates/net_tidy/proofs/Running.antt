-- Runs of a netlist and of one that follows it.
use Rattle.std.proofs.Common.{◌≡◌, ℕ, zero, suc, ◌<◌, ◌≤◌, Bool, List, length, sym, ◌∙◌, arith}
use Rattle.pbs_base.specs.declared.entry.Entry.{Entry}
use Rattle.pbs_base.specs.declared.entry.Entry.TheVariants.{Vector, Reset}
use Rattle.pbs_base.specs.Entries.{Reads}
use Rattle.net_core.specs.Rows.{Row}
use Rattle.net_core.specs.Circuits.{Circuit}
use Rattle.net_core.specs.Runs.{IsRun}
use Rattle.net_eval.specs.Assignments.{Agree}
use Rattle.net_eval.proofs.Agreeing.{some_at}
use Rattle.net_tidy.specs.Follows.{Follows, MatchesRow}

pub run_followed : (net made : Circuit) → Follows net made → (v : List Entry) (rows : ℕ → Row) → IsRun made v rows
    → (source_rows : ℕ → Row) × IsRun net v source_rows
    × ((k : ℕ) → k ≤ length v → MatchesRow net made (source_rows k) (rows k))
run_followed net made f v rows run = f.runs v rows run

same_reset : (e : Entry) (a b : Bool) (x y : ℕ) → Reads e a x → Reads e b y → a ≡ b
same_reset (Vector z) a b x y p q = p.0 ∙ sym q.0
same_reset Reset a b x y p q = p ∙ sym q

module _ (net made : Circuit) (follows : Follows net made) (v : List Entry) (source_rows rows : ℕ → Row)
    (run : IsRun net v source_rows) (run' : IsRun made v rows)
    (agree : Agree (length net.registers) 0 (source_rows 0) (rows 0))
    (inputs : (k : ℕ) → k ≤ length v → (source_rows k).vector ≡ (rows k).vector) where
  rows_agree : (k : ℕ) → k ≤ length v → Agree (length net.registers) 0 (source_rows k) (rows k)
  rows_agree zero h = agree
  rows_agree (suc k) h =
      let low : k < length v = omega arith in
      let shows = follows.rows (source_rows k) (rows k) (run.each k (omega arith)) (run'.each k (omega arith))
      (rows_agree k (omega arith)) in
      let entry = some_at v k low in
      let many = follows.registers in
      record {
        registers = λ r m.
            run.registers k low r m
            ∙ (sym (shows.next r m) ∙ sym (run'.registers k low r (omega (arith, m, many))));
        reset =
            same_reset entry.0 (source_rows (suc k)).reset (rows (suc k)).reset (source_rows (suc k)).vector
            (rows (suc k)).vector (run.entries k entry.0 entry.1) (run'.entries k entry.0 entry.1);
        vector = inputs (suc k) h;
        gates = λ n m. absurd (omega arith);
      }

  pub rows_match : (k : ℕ) → k ≤ length v → MatchesRow net made (source_rows k) (rows k)
  rows_match k h = record {
    agree = rows_agree k h;
    shows = follows.rows (source_rows k) (rows k) (run.each k h) (run'.each k h) (rows_agree k h);
  }
