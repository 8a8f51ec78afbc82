-- Tests on numbers, sets and lists.
use Rattle.std.proofs.Common.{◌≡◌, ℕ, zero, suc, ◌≤◌, Bool, true, false, not, ◌&&◌, List}
use Rattle.std.proofs.Common.{[], ◌∷◌, Some, refl, sym, ap, ◌∙◌, arith}
use Rattle.std.specs.Prelude.{slice_get, nat_eq}
use Rattle.vlog_order.specs.declared.waiting.Waiter.{Waiter}
use Rattle.vlog_order.specs.inner.Queues.{Has, without, wakes}
use Rattle.std.specs.Ordering.{nat_cmp}
use Rattle.std.specs.BTreeMap.{is_at}
use Rattle.std.specs.BTreeSet.{BTreeSet, contains, Updates, IsLowerBound}
use Rattle.std.proofs.lemmas.Bool.{ne_eqb, eq-eqb, or_left, or_right, both_ways}
use Rattle.std.proofs.lemmas.Map.Keys.{le_from_not_gt}
use Rattle.std.proofs.lemmas.Grind.{common_steps}
use Rattle.std.proofs.lemmas.Option.{same_Some}

pub at_apart : (k q : ℕ) → (q ≡ k → ⊥) → is_at (nat_cmp k) q ≡ false
at_apart k q ne = grind (arith, common_steps)

pub set_same : (s n : BTreeSet ℕ) (k : ℕ) (b : Bool) → Updates nat_cmp s n k b → contains nat_cmp n k ≡ b
set_same s n k b u = u.1

pub set_other : (s n : BTreeSet ℕ) (k q : ℕ) (b : Bool) → Updates nat_cmp s n k b → (q ≡ k → ⊥)
    → contains nat_cmp n q ≡ contains nat_cmp s q
set_other s n k q b u ne = u.2 q (at_apart k q ne)

pub least_le : (s : BTreeSet ℕ) (k q : ℕ) → IsLowerBound nat_cmp s k → contains nat_cmp s q ≡ true → k ≤ q
least_le s k q bound has = le_from_not_gt k q (bound q has)

pub without_other : (pending : ℕ → Bool) (g n : ℕ) → (n ≡ g → ⊥) → without pending g n ≡ false → pending n ≡ false
without_other pending g n ne h = kept (pending n) (nat_eq n g) (ne_eqb n g ne) h
  where
    kept : (a b : Bool) → b ≡ false → (a && not b) ≡ false → a ≡ false
    kept true b e h = absurd (both_ways true (ap not (sym e) ∙ h) refl)
    kept false b e h = refl

pub wakes_has : (woken : List Waiter) (w : Waiter) (n : ℕ) → Has woken w → w.gate ≡ n → wakes woken n ≡ true
wakes_has woken w n h e = go woken h.place h.is
  where
    go : (xs : List Waiter) (i : ℕ) → slice_get xs i ≡ Some w → wakes xs n ≡ true
    go [] i at = cc
    go (x ∷ xs) zero at =
        let same : x ≡ w = same_Some x w at in
        or_left (nat_eq x.gate n) _ (eq-eqb x.gate n (ap (λ (y : Waiter). y.gate) same ∙ e))
    go (x ∷ xs) (suc i) at = or_right (nat_eq x.gate n) _ (go xs i at)
