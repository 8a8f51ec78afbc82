-- The order so far, and what is left.
use Rattle.std.proofs.Common.{◌≡◌, ℕ, zero, suc, ◌+◌, ◌-◌, ◌<◌, inl, inr, Bool, true, false, List, [], ◌∷◌, ◌++◌}
use Rattle.std.proofs.Common.{length, None, set, take, refl, sym, ap, ◌∙◌, arith, get_or-set_other}
use Rattle.std.proofs.Common.{get_or-set_same, length-set}
use Rattle.std.specs.Prelude.{nat_eq, ◌||◌}
use Rattle.std.specs.Ordering.{nat_cmp}
use Rattle.std.specs.BTreeSet.{BTreeSet, contains, IsLowerBound}
use Rattle.std.proofs.lemmas.List.Folds.{list_any-append}
use Rattle.std.proofs.lemmas.Bool.{ne_eqb, eq-eqb, cases_eq, or_right}
use Rattle.std.proofs.Math.Seq.{take-append_seam}
use Rattle.net_core.specs.declared.gate as netlist
use Rattle.vlog_order.specs.declared.waiting.Waiter.{Waiter}
use Rattle.vlog_text.specs.Orders.{is_among, then_on, first_from, order_from, order_of}
use Rattle.vlog_order.proofs.Steps.{least_first, empty_none}
use Rattle.vlog_order.specs.inner.Queues.{marked, IsQueue}

pub record Ordered (gates : List netlist.Gate.Gate) (taken : List Bool) (ready : BTreeSet ℕ)
    (waiting : List (List Waiter)) (order : List ℕ) (count : ℕ) : Type 0 where
  pub queue : IsQueue gates (marked taken) ready waiting (λ n. false)
  pub long : length taken ≡ length gates
  pub same : (n : ℕ) → marked taken n ≡ is_among order n
  pub goes_on : (left : ℕ) → left + count ≡ length gates → order_from gates left order ≡ order_of gates

-- tests that agree are one
tests_same : (f g : ℕ → Bool) → ((n : ℕ) → f n ≡ g n) → f ≡ g
tests_same f g h = λ i n. h n i

firsts_same : (gates : List netlist.Gate.Gate) (taken : List Bool) (order : List ℕ)
    → ((n : ℕ) → marked taken n ≡ is_among order n)
    → first_from (is_among order) zero gates ≡ first_from (marked taken) zero gates
firsts_same gates taken order same =
    ap (λ (f : ℕ → Bool). first_from f zero gates) (sym (tests_same (marked taken) (is_among order) same))

-- no gate can be taken: the order is whole
pub ordered_whole : (gates : List netlist.Gate.Gate) (taken : List Bool) (ready : BTreeSet ℕ)
    (waiting : List (List Waiter)) (order : List ℕ) (count : ℕ) → Ordered gates taken ready waiting order count
    → count < length gates → ready.keys ≡ [] → order ≡ order_of gates
ordered_whole gates taken ready waiting order count o within empty =
    let none = firsts_same gates taken order o.same ∙ empty_none gates (marked taken) ready waiting o.queue empty in
    go (length gates - count) (o.goes_on (length gates - count) (omega arith)) none
  where
    go : (left : ℕ) → order_from gates left order ≡ order_of gates → first_from (is_among order) zero gates ≡ None
        → order ≡ order_of gates
    go zero h e = h
    go (suc left) h e = sym (ap (λ o. then_on o order (λ n. order_from gates left (order ++ n ∷ []))) e) ∙ h

pub ordered_all : (gates : List netlist.Gate.Gate) (taken : List Bool) (ready : BTreeSet ℕ)
    (waiting : List (List Waiter)) (order : List ℕ) (count : ℕ) → Ordered gates taken ready waiting order count
    → count ≡ length gates → order ≡ order_of gates
ordered_all gates taken ready waiting order count o all = o.goes_on zero (omega arith)

-- one gate more
pub ordered_more : (gates : List netlist.Gate.Gate) (taken : List Bool) (ready ready' : BTreeSet ℕ)
    (waiting waiting' : List (List Waiter)) (order : List ℕ) (count k : ℕ)
    → Ordered gates taken ready waiting order count
    → contains nat_cmp ready k ≡ true → IsLowerBound nat_cmp ready k → k < length taken
    → IsQueue gates (marked (set taken k true)) ready' waiting' (λ n. false)
    → Ordered gates (set taken k true) ready' waiting' (order ++ k ∷ []) (count + 1)
ordered_more gates taken ready ready' waiting waiting' order count k o has least within q = record {
  queue = q;
  long = length-set taken k true ∙ o.long;
  same = λ n. marked_more n ∙ sym (among_more n);
  goes_on = λ left e.
      let old : order_from gates (suc left) order ≡ order_of gates = o.goes_on (suc left) (omega arith) in
      let first = firsts_same gates taken order o.same
      ∙ least_first gates (marked taken) ready waiting k o.queue has least in
      sym (ap (λ o. then_on o order (λ n. order_from gates left (order ++ n ∷ []))) first) ∙ old;
}
  where
    among_more : (n : ℕ) → is_among (order ++ k ∷ []) n ≡ (is_among order n || nat_eq n k)
    among_more n = list_any-append (nat_eq n) order (k ∷ []) ∙ ap (λ b. is_among order n || b) (or_none (nat_eq n k))
      where
        or_none : (b : Bool) → (b || false) ≡ b
        or_none true = refl
        or_none false = refl

    marked_more : (n : ℕ) → marked (set taken k true) n ≡ (is_among order n || nat_eq n k)
    marked_more n = elim (cases_eq n k) [
      | inl e ↦ ap (λ j. marked (set taken k true) j) e ∙ get_or-set_same taken k true false within
          ∙ sym (or_right (is_among order n) (nat_eq n k) (eq-eqb n k e))
      | inr ne ↦ get_or-set_other taken k n true false ne ∙ o.same n
          ∙ sym (or_false (is_among order n) (nat_eq n k) (ne_eqb n k ne))
    ]
      where
        or_false : (a b : Bool) → b ≡ false → (a || b) ≡ a
        or_false true b e = refl
        or_false false b e = e

pub refilled : (bits old : List Bool) (n : ℕ) → length bits ≡ n → take n (bits ++ old) ≡ bits
refilled bits old n e = ap (λ m. take m (bits ++ old)) (sym e) ∙ take-append_seam bits old

-- nothing was there to pop
pub none_left : (keys : List ℕ) → (0 < length keys → false ≡ true) → keys ≡ []
none_left [] h = refl
none_left (k ∷ ks) h = let e = h (omega arith) in cc
