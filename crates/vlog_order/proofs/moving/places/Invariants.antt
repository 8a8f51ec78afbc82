use Rattle.std.proofs.Common.{◌≡◌, ◌<◌, ◌≤◌, ℕ, length, drop, get_or, List}
use Rattle.vlog_order.proofs.Placing.{place_from}
use Rattle.vlog_order.proofs.moving.places.Given as goal

pub record Placed (count : ℕ) (order : List ℕ) (k : ℕ) (places : List ℕ) : Type 0 where
  pub long : length places ≡ count
  pub within : k ≤ length order
  pub placed : (n : ℕ) → n < count → get_or places n 0 ≡ place_from k (drop k order) n

abbrev pub invariant-loop-k : goal.invariant-loop-k
invariant-loop-k l = Placed l.count l.order l.k l.places.items

abbrev pub decreases-loop-k : goal.decreases-loop-k
decreases-loop-k l = l.k
