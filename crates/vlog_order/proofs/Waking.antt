-- Waiters that are settled one by one.
use Rattle.std.proofs.Common.{◌≡◌, ℕ, zero, suc, ◌+◌, ◌<◌, Bool, true, false, not, ◌&&◌, List}
use Rattle.std.proofs.Common.{length, get_or, set, drop, replicate, refl, sym, ap, ◌∙◌}
use Rattle.std.proofs.Common.{subst, arith, get_or-set_other, get_or-set_same, drop-cons, add-one}
use Rattle.std.specs.Prelude.{nat_eq, nat_le, ◌||◌}
use Rattle.std.specs.BTreeSet.{BTreeSet}
use Rattle.std.proofs.lemmas.Bool.Decides.{nat_tests}
use Rattle.net_core.specs.declared.gate as netlist
use Rattle.vlog_order.specs.declared.waiting.Waiter.{Waiter}
use Rattle.vlog_order.specs.inner.Queues.{marked, IsWaiter, IsQueue, without, wakes}
use Rattle.vlog_text.proofs.OrderLemmas.{some_at}
use Rattle.vlog_order.proofs.Steps.{fewer_pending, Marks}

waking_rest : (woken : List Waiter) (i n : ℕ) (d : Waiter) → i < length woken → wakes (drop (i + 1) woken) n ≡ false
    → without (wakes (drop i woken)) (get_or woken i d).gate n ≡ false
waking_rest woken i n d within calm =
    subst (λ (xs : List Waiter). without (wakes xs) (get_or woken i d).gate n ≡ false)
    (sym (drop-cons woken i d within))
    (settled (nat_eq (get_or woken i d).gate n) (wakes (drop (suc i) woken) n) (nat_eq n (get_or woken i d).gate)
    (same_both ((get_or woken i d).gate) n) (subst (λ m. wakes (drop m woken) n ≡ false) (add-one i) calm))
  where
    same_both : (a b : ℕ) → nat_eq a b ≡ nat_eq b a
    same_both a b = grind (arith, nat_tests)

    settled : (a b c : Bool) → a ≡ c → b ≡ false → ((a || b) && not c) ≡ false
    settled true true c e f = cc
    settled true false true e f = refl
    settled true false false e f = cc
    settled false b c e f = cc

-- one waiter fewer
pub waking_more : (gates : List netlist.Gate.Gate) (taken : ℕ → Bool) (ready : BTreeSet ℕ)
    (waiting : List (List Waiter)) (woken : List Waiter) (i : ℕ) (d : Waiter) → i < length woken
    → IsQueue gates taken ready waiting (without (wakes (drop i woken)) (get_or woken i d).gate)
    → IsQueue gates taken ready waiting (wakes (drop (i + 1) woken))
waking_more gates taken ready waiting woken i d within q =
    fewer_pending gates taken ready waiting _ _ (λ n _ calm. waking_rest woken i n d within calm) q

-- one gate fewer
pub starting_more : (gates : List netlist.Gate.Gate) (taken : ℕ → Bool) (ready : BTreeSet ℕ)
    (waiting : List (List Waiter)) (i : ℕ)
    → IsQueue gates taken ready waiting (without (nat_le i) i) → IsQueue gates taken ready waiting (nat_le (i + 1))
starting_more gates taken ready waiting i q = fewer_pending gates taken ready waiting _ _ (λ n _ calm. below i n calm) q
  where
    below : (i n : ℕ) → nat_le (i + 1) n ≡ false → without (nat_le i) i n ≡ false
    below i n calm = grind (arith, nat_tests)

pub none_marked : (count n : ℕ) → marked (replicate count false) n ≡ false
none_marked zero n = refl
none_marked (suc count) zero = refl
none_marked (suc count) (suc n) = none_marked count n

-- a gate whose pins aren't looked at yet
pub new_waiter : (gates : List netlist.Gate.Gate) (taken : List Bool) (n : ℕ) → n < length gates
    → taken ≡ replicate (length gates) false → IsWaiter gates (marked taken) (record { gate = n; pin = 0 })
new_waiter gates taken n within none =
    let g = some_at gates n within in
    record {
      gate = g.0;
      there = g.1;
      free = ap (λ bits. marked bits n) none ∙ none_marked (length gates) n;
      settled = record { each = λ i w low below at. absurd (omega arith) };
    }

pub marks_set : (taken : List Bool) (k : ℕ) → k < length taken → Marks (marked taken) (marked (set taken k true)) k
marks_set taken k within = record {
  here = get_or-set_same taken k true false within;
  others = λ n ne. get_or-set_other taken k n true false ne;
}
