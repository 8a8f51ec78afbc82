use Rattle.std.proofs.Common.{◌≡◌, ◌<◌, ℕ, false}
use Rattle.pbs_covers.specs.Grids.{trips_at}
use Rattle.pbs_explain.proofs.known.first_trip.Given as goal

abbrev pub invariant-loop-m : goal.invariant-loop-m
invariant-loop-m l = (p : ℕ) → l.i < p → p < l.m → trips_at l.n l.trap l.alive l.i p ≡ false
