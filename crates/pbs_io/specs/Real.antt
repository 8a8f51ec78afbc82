-- What a shelf of real files means: nothing is told but which slots have a file.
use Rattle.std.specs.Prelude.{ℕ, Bool, false, cond, None, nat_eq}
use Rattle.pbs_io.specs.Outside.{ShelfState}

abbrev pub stands_in : Bool → Bool → ℕ → Bool
stands_in first second n = cond (nat_eq n 0) first second

abbrev pub real_state : Bool → Bool → ℕ → ShelfState
real_state first second faults = record {
  files = None;
  slots = λ n. record { stands = stands_in first second n; left = None };
  faults = faults;
  sound = false;
}
