-- The work that is left while gates are put in order.
use Rattle.std.specs.Prelude.{◌≡◌, ℕ, ◌<◌, ◌≤◌, Bool, true, false, not, ◌&&◌, nat_eq, List, [], length, Some}
use Rattle.std.specs.Prelude.{slice_get, slice_index_or}
use Rattle.std.specs.List.{list_any}
use Rattle.std.specs.BTreeSet.{BTreeSet, contains, Updates}
use Rattle.std.specs.Ordering.{nat_cmp}
use Rattle.net_core.specs.declared.gate.Wire.{Wire}
use Rattle.net_core.specs.declared.gate.Wire.TheVariants.{Gate}
use Rattle.net_core.specs.declared.gate as netlist
use Rattle.vlog_order.specs.declared.waiting.Waiter.{Waiter}
use Rattle.vlog_text.specs.Orders.{is_settled, all_settled}

abbrev pub marked : List Bool → ℕ → Bool
marked bits n = slice_index_or bits n false

-- the list has it somewhere
pub record Has {X : Type 0} (xs : List X) (x : X) : Type 0 where
  pub place : ℕ
  pub is : slice_get xs place ≡ Some x

-- pins of the list from one number on, below another, are settled
pub record SettledBetween (taken : ℕ → Bool) (pins : List Wire) (start stop : ℕ) : Type 0 where
  pub each : (i : ℕ) (w : Wire) → start ≤ i → i < stop → slice_get pins i ≡ Some w → is_settled taken w ≡ true

-- this gate can be taken
pub record IsReady (gates : List netlist.Gate.Gate) (taken : ℕ → Bool) (n : ℕ) : Type 0 where
  pub gate : netlist.Gate.Gate
  pub there : slice_get gates n ≡ Some gate
  pub free : taken n ≡ false
  pub settled : all_settled taken gate.pins ≡ true

-- its gate isn't taken, and the gate's pins before its pin are settled
pub record IsWaiter (gates : List netlist.Gate.Gate) (taken : ℕ → Bool) (w : Waiter) : Type 0 where
  pub gate : netlist.Gate.Gate
  pub there : slice_get gates w.gate ≡ Some gate
  pub free : taken w.gate ≡ false
  pub settled : SettledBetween taken gate.pins 0 w.pin

-- and its pin is gate d
pub record WaitsFor (gates : List netlist.Gate.Gate) (taken : ℕ → Bool) (d : ℕ) (w : Waiter) : Type 0 where
  pub gate : netlist.Gate.Gate
  pub there : slice_get gates w.gate ≡ Some gate
  pub free : taken w.gate ≡ false
  pub settled : SettledBetween taken gate.pins 0 w.pin
  pub pin : slice_get gate.pins w.pin ≡ Some (Gate d)

-- gate u waits for a gate that isn't taken
pub record IsWaiting (waiting : List (List Waiter)) (taken : ℕ → Bool) (u : ℕ) : Type 0 where
  pub awaited : ℕ
  pub waiter : Waiter
  pub free : taken awaited ≡ false
  pub listed : Has (slice_index_or waiting awaited []) waiter
  pub same : waiter.gate ≡ u

-- each gate that isn't taken is ready, or waits for one that isn't taken, or is pending
pub record IsQueue (gates : List netlist.Gate.Gate) (taken : ℕ → Bool) (ready : BTreeSet ℕ)
    (waiting : List (List Waiter)) (pending : ℕ → Bool) : Type 0 where
  pub long : length waiting ≡ length gates
  pub ready_are : (n : ℕ) → contains nat_cmp ready n ≡ true → IsReady gates taken n
  pub waiters_are : (d : ℕ) (w : Waiter) → taken d ≡ false → Has (slice_index_or waiting d []) w
      → WaitsFor gates taken d w
  pub others_wait : (n : ℕ) → n < length gates → taken n ≡ false → contains nat_cmp ready n ≡ false
      → pending n ≡ false → IsWaiting waiting taken n

-- the gates of a test but one
abbrev pub without : (ℕ → Bool) → ℕ → ℕ → Bool
without pending gate n = pending n && not (nat_eq n gate)

-- gate n is among the waiters
abbrev pub wakes : List Waiter → ℕ → Bool
wakes woken n = list_any (λ w. nat_eq w.gate n) woken

-- the gate was the least ready one, and has just left the set
pub record Popped (gates : List netlist.Gate.Gate) (taken : ℕ → Bool) (ready : BTreeSet ℕ)
    (waiting : List (List Waiter)) (gate : ℕ) : Type 0 where
  pub before : BTreeSet ℕ
  pub queue : IsQueue gates taken before waiting (λ n. false)
  pub was_in : contains nat_cmp before gate ≡ true
  pub update : Updates nat_cmp before ready gate false
