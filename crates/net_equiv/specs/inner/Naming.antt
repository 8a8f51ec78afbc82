-- What a call that compares two netlists knows.
use Rattle.std.specs.Prelude.{◌≡◌, ℕ, true, false, List, length, map, slice_get, Some, Option, None}
use Rattle.std.specs.List.{range_with_len}
use Rattle.net_core.specs.Circuits.{Circuit}
use Rattle.net_equiv.specs.declared.answer.RegPair.{RegPair}
use Rattle.net_equiv.specs.declared.answer.Comparison.{Comparison}
use Rattle.net_equiv.specs.declared.answer.Difference.{Difference}
use Rattle.net_equiv.specs.Comparing.{comparisons}
use Rattle.net_equiv.specs.Cones.{a_name, b_name}
use Rattle.net_equiv.specs.declared.answer.Answer.{Answer}
use Rattle.net_equiv.specs.declared.answer.Answer.TheVariants.{Equal, Differ}
use Rattle.net_equiv.specs.declared.comparing.Names.{Names}
use Rattle.net_equiv.specs.declared.halves.Cones.{Cones}
use Rattle.net_equiv.specs.inner.Filling.{IsClear}

-- the comparison is one of those that are made
pub record IsMade (a : Circuit) (pairs : List RegPair) (c : Comparison) : Type 0 where
  pub place : ℕ
  pub at : slice_get (comparisons a pairs) place ≡ Some c

-- the first of two that is there
abbrev pub first_told : Option Difference → Option Difference → Option Difference
first_told None told = told
first_told (Some d) told = Some d

abbrev pub answer_by : Option Difference → Answer
answer_by None = Equal
answer_by (Some d) = Differ d

-- what registers count as: A's, and B's in each case
pub record AreAllNames (a b : Circuit) (pairs : List RegPair) (names : Names) : Type 0 where
  pub of_a : names.of_a.items ≡ map a_name (range_with_len 0 (length a.registers))
  pub in_reset : names.in_reset.items ≡ map (b_name pairs true) (range_with_len 0 (length b.registers))
  pub in_run : names.in_run.items ≡ map (b_name pairs false) (range_with_len 0 (length b.registers))

-- there is room for cones of both netlists, and no gate is marked
pub record AreRoom (a b : Circuit) (cones : Cones) : Type 0 where
  pub a_clear : IsClear (length a.gates) cones.a
  pub b_clear : IsClear (length b.gates) cones.b
