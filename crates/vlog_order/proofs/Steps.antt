-- Steps of the work that is left while gates are put in order.
use Rattle.std.proofs.Common.{◌≡◌, ℕ, zero, suc, ◌<◌, ◌≤◌, ◌⊎◌, inl, inr, Bool, true, false, not, ◌&&◌, List, []}
use Rattle.std.proofs.Common.{◌∷◌, ◌++◌, length, Some, None, refl, sym, ap, ◌∙◌, subst, arith}
use Rattle.std.proofs.Common.{get_or-set_other, get_or-set_same, length-set}
use Rattle.std.specs.Prelude.{slice_get, slice_set, slice_index_or}
use Rattle.std.specs.Ordering.{nat_cmp}
use Rattle.std.specs.BTreeSet.{BTreeSet, contains, Updates, IsLowerBound}
use Rattle.std.proofs.lemmas.Option.{same_Some, slice_get_within}
use Rattle.std.proofs.lemmas.Bool.{cases_lt, and_from, both_ways, cases_Bool, cases_eq}
use Rattle.net_core.specs.declared.gate.Wire.{Wire}
use Rattle.net_core.specs.declared.gate.Wire.TheVariants.{Const, Reset, Input, Reg, Gate}
use Rattle.net_core.specs.declared.gate as netlist
use Rattle.vlog_order.specs.declared.waiting.Waiter.{Waiter}
use Rattle.vlog_text.specs.Orders.{is_settled, all_settled, can_be_taken, first_from}
use Rattle.vlog_order.specs.inner.Queues.{Has, SettledBetween, IsReady, IsWaiter, WaitsFor, IsQueue, without}
use Rattle.vlog_order.specs.inner.Queues.{wakes}
use Rattle.vlog_order.proofs.Tests.{set_same, set_other, least_le}
use Rattle.vlog_order.proofs.Tests.{without_other, wakes_has}
use Rattle.vlog_text.proofs.OrderLemmas.{each_settled, settled_all, none_from, some_from}

-- a gate was taken
pub record Marks (taken taken' : ℕ → Bool) (k : ℕ) : Type 0 where
  pub here : taken' k ≡ true
  pub others : (n : ℕ) → (n ≡ k → ⊥) → taken' n ≡ taken n

pub ready_can : (gates : List netlist.Gate.Gate) (taken : ℕ → Bool) (n : ℕ) (r : IsReady gates taken n)
    → can_be_taken taken n r.gate.pins ≡ true
ready_can gates taken n r = and_from (not (taken n)) _ (ap not r.free) r.settled

-- who waits for a gate that isn't taken isn't ready
pub waiter_cannot : (gates : List netlist.Gate.Gate) (taken : ℕ → Bool) (d : ℕ) (w : Waiter) (g : netlist.Gate.Gate)
    → taken d ≡ false → WaitsFor gates taken d w → slice_get gates w.gate ≡ Some g → all_settled taken g.pins ≡ true → ⊥
waiter_cannot gates taken d w g free waits at settled =
    let same : waits.gate ≡ g = same_Some waits.gate g (sym waits.there ∙ at) in
    let pins : all_settled taken waits.gate.pins ≡ true
    = subst (λ (x : netlist.Gate.Gate). all_settled taken x.pins ≡ true) (sym same) settled in
    both_ways (taken d) free (each_settled taken waits.gate.pins w.pin (Gate d) pins waits.pin)

-- a gate that is not in the set can't be taken
pub unready : (gates : List netlist.Gate.Gate) (taken : ℕ → Bool) (ready : BTreeSet ℕ) (waiting : List (List Waiter))
    → IsQueue gates taken ready waiting (λ n. false)
    → (n : ℕ) (g : netlist.Gate.Gate) → slice_get gates n ≡ Some g → contains nat_cmp ready n ≡ false
    → can_be_taken taken n g.pins ≡ false
unready gates taken ready waiting q n g at out =
    elim (cases_Bool (can_be_taken taken n g.pins)) [
      | inr no_way ↦ no_way
      | inl can ↦ absurd (
          let free : taken n ≡ false = free_of (taken n) _ can in
          let settled : all_settled taken g.pins ≡ true = settled_of (taken n) _ can in
          let w = q.others_wait n (slice_get_within gates n g at) free out refl in
          waiter_cannot gates taken w.awaited w.waiter g w.free (q.waiters_are w.awaited w.waiter w.free w.listed)
          (ap (λ m. slice_get gates m) w.same ∙ at) settled)
    ]
  where
    free_of : (a b : Bool) → (not a && b) ≡ true → a ≡ false
    free_of true b h = sym h
    free_of false b h = refl

    settled_of : (a b : Bool) → (not a && b) ≡ true → b ≡ true
    settled_of true b h = cc
    settled_of false b h = h

-- the least of the set is the first that can be taken
pub least_first : (gates : List netlist.Gate.Gate) (taken : ℕ → Bool) (ready : BTreeSet ℕ)
    (waiting : List (List Waiter)) (k : ℕ) → IsQueue gates taken ready waiting (λ n. false)
    → contains nat_cmp ready k ≡ true → IsLowerBound nat_cmp ready k → first_from taken zero gates ≡ Some k
least_first gates taken ready waiting k q has least =
    let r = q.ready_are k has in
    some_from taken zero gates k r.gate r.there
    (subst (λ m. can_be_taken taken m r.gate.pins ≡ true) (omega arith) (ready_can gates taken k r))
    (λ j x below at. subst (λ m. can_be_taken taken m x.pins ≡ false) (omega arith)
    (unready gates taken ready waiting q j x at (not_in j below)))
    ∙ ap (λ m. Some m) (omega arith)
  where
    not_in : (j : ℕ) → j < k → contains nat_cmp ready j ≡ false
    not_in j below =
        elim (cases_Bool (contains nat_cmp ready j)) [
          | inr out ↦ out
          | inl has_j ↦ absurd (let le : k ≤ j = least_le ready k j least has_j in omega arith)
        ]

pub empty_none : (gates : List netlist.Gate.Gate) (taken : ℕ → Bool) (ready : BTreeSet ℕ) (waiting : List (List Waiter))
    → IsQueue gates taken ready waiting (λ n. false)
    → ready.keys ≡ [] → first_from taken zero gates ≡ None
empty_none gates taken ready waiting q empty =
    none_from taken zero gates
    (λ k x at. subst (λ m. can_be_taken taken m x.pins ≡ false) (omega arith)
    (unready gates taken ready waiting q k x at (out k)))
  where
    out : (k : ℕ) → contains nat_cmp ready k ≡ false
    out k = rw empty refl

pub settled_more : (taken taken' : ℕ → Bool) (k : ℕ) → Marks taken taken' k → (w : Wire) → is_settled taken w ≡ true
    → is_settled taken' w ≡ true
settled_more taken taken' k m (Const b) h = refl
settled_more taken taken' k m Reset h = refl
settled_more taken taken' k m (Input n) h = refl
settled_more taken taken' k m (Reg n) h = refl
settled_more taken taken' k m (Gate n) h =
    elim (cases_eq n k) [ inl e ↦ subst (λ j. taken' j ≡ true) (sym e) m.here | inr ne ↦ m.others n ne ∙ h ]

pub between_more : (taken taken' : ℕ → Bool) (k : ℕ) → Marks taken taken' k → (pins : List Wire) (start stop : ℕ)
    → SettledBetween taken pins start stop → SettledBetween taken' pins start stop
between_more taken taken' k m pins start stop s = record {
  each = λ i w l h e. settled_more taken taken' k m w (s.each i w l h e);
}

pub ready_more : (gates : List netlist.Gate.Gate) (taken taken' : ℕ → Bool) (k : ℕ) → Marks taken taken' k → (n : ℕ)
    → (n ≡ k → ⊥) → IsReady gates taken n → IsReady gates taken' n
ready_more gates taken taken' k m n ne r = record {
  gate = r.gate;
  there = r.there;
  free = m.others n ne ∙ r.free;
  settled =
      settled_all taken' r.gate.pins
      (λ i w e. settled_more taken taken' k m w (each_settled taken r.gate.pins i w r.settled e));
}

-- who waits still waits
pub waits_more : (gates : List netlist.Gate.Gate) (taken taken' : ℕ → Bool) (k : ℕ) → Marks taken taken' k
    → (d : ℕ) (w : Waiter) → (w.gate ≡ k → ⊥) → WaitsFor gates taken d w → WaitsFor gates taken' d w
waits_more gates taken taken' k m d w ne h = record {
  gate = h.gate;
  there = h.there;
  free = m.others w.gate ne ∙ h.free;
  settled = between_more taken taken' k m h.gate.pins 0 w.pin h.settled;
  pin = h.pin;
}

module _ (gates : List netlist.Gate.Gate) (taken taken' : ℕ → Bool) (ready ready' : BTreeSet ℕ)
    (waiting : List (List Waiter)) (k : ℕ)
    (q : IsQueue gates taken ready waiting (λ n. false)) (has : contains nat_cmp ready k ≡ true)
    (update : Updates nat_cmp ready ready' k false) (m : Marks taken taken' k) where
  ready_k : IsReady gates taken k
  ready_k = q.ready_are k has

  not_k : (d : ℕ) (w : Waiter) → taken d ≡ false → WaitsFor gates taken d w → w.gate ≡ k → ⊥
  not_k d w free h same =
      waiter_cannot gates taken d w ready_k.gate free h (ap (λ n. slice_get gates n) same ∙ ready_k.there)
      ready_k.settled

  apart_in : (n : ℕ) → contains nat_cmp ready' n ≡ true → n ≡ k → ⊥
  apart_in n h e =
      both_ways (contains nat_cmp ready' k) (set_same ready ready' k false update)
      (ap (λ j. contains nat_cmp ready' j) (sym e) ∙ h)

  apart_free : (n : ℕ) → taken' n ≡ false → n ≡ k → ⊥
  apart_free n h e = both_ways (taken' k) (ap taken' (sym e) ∙ h) m.here

  -- those who waited for the gate wait no more
  pub woken_are : (w : Waiter) → Has (slice_index_or waiting k []) w → IsWaiter gates taken' w
  woken_are w h =
      let old = q.waiters_are k w ready_k.free h in
      let new = waits_more gates taken taken' k m k w (not_k k w ready_k.free old) old in
      record { gate = new.gate; there = new.there; free = new.free; settled = new.settled }

  -- and may be ready
  pub popped : IsQueue gates taken' ready' (slice_set waiting k []) (wakes (slice_index_or waiting k []))
  popped = record {
    long = length-set waiting k [] ∙ q.long;
    ready_are =
        λ n h. ready_more gates taken taken' k m n (apart_in n h)
        (q.ready_are n (sym (set_other ready ready' k n false update (apart_in n h)) ∙ h));
    waiters_are = λ d w free h.
        let ne : d ≡ k → ⊥ = apart_free d free in
        let was : taken d ≡ false = sym (m.others d ne) ∙ free in
        let old = q.waiters_are d w was (subst (λ xs. Has xs w) (get_or-set_other waiting k d [] [] ne) h) in
        waits_more gates taken taken' k m d w (not_k d w was old) old;
    others_wait = λ n within free out calm.
        let ne : n ≡ k → ⊥ = apart_free n free in
        let w = q.others_wait n within (sym (m.others n ne) ∙ free)
        (sym (set_other ready ready' k n false update ne) ∙ out) refl in
        elim (cases_eq w.awaited k) [
          | inl e ↦ absurd (both_ways (wakes (slice_index_or waiting k []) n) calm
              (wakes_has (slice_index_or waiting k []) w.waiter n
              (subst (λ j. Has (slice_index_or waiting j []) w.waiter) e w.listed) w.same))
          | inr apart ↦ record {
            awaited = w.awaited;
            waiter = w.waiter;
            free = m.others w.awaited apart ∙ w.free;
            listed = subst (λ xs. Has xs w.waiter) (sym (get_or-set_other waiting k w.awaited [] [] apart)) w.listed;
            same = w.same;
          }
        ];
  }

pub has_within : {X : Type 0} (xs : List X) (y x : X) → Has (xs ++ y ∷ []) x → Has xs x ⊎ (x ≡ y)
has_within xs y x h = go xs h.place h.is
  where
    go : (zs : List _) (i : ℕ) → slice_get (zs ++ y ∷ []) i ≡ Some x → Has zs x ⊎ (x ≡ y)
    go [] zero at = inr (sym (same_Some y x at))
    go [] (suc i) at = cc
    go (z ∷ zs) zero at = inl (record { place = zero; is = at })
    go (z ∷ zs) (suc i) at =
        elim (go zs i at) [ inl r ↦ inl (record { place = suc r.place; is = r.is }) | inr e ↦ inr e ]

pub has_more : {X : Type 0} (xs : List X) (y x : X) → Has xs x → Has (xs ++ y ∷ []) x
has_more xs y x h = go xs h.place h.is
  where
    go : (zs : List _) (i : ℕ) → slice_get zs i ≡ Some x → Has (zs ++ y ∷ []) x
    go [] i at = cc
    go (z ∷ zs) zero at = record { place = zero; is = at }
    go (z ∷ zs) (suc i) at = let r = go zs i at in record { place = suc r.place; is = r.is }

pub has_last : {X : Type 0} (xs : List X) (y : X) → Has (xs ++ y ∷ []) y
has_last [] y = record { place = zero; is = refl }
has_last (z ∷ zs) y = let r = has_last zs y in record { place = suc r.place; is = r.is }

module _ (gates : List netlist.Gate.Gate) (taken : ℕ → Bool) (ready ready' : BTreeSet ℕ) (waiting : List (List Waiter))
    (pending : ℕ → Bool) (w : Waiter)
    (q : IsQueue gates taken ready waiting pending) (is : IsWaiter gates taken w) where
  pub now_ready : SettledBetween taken is.gate.pins w.pin (length is.gate.pins)
      → Updates nat_cmp ready ready' w.gate true → IsQueue gates taken ready' waiting (without pending w.gate)
  now_ready rest update = record {
    long = q.long;
    ready_are = λ n h. elim (cases_eq n w.gate) [
      | inl e ↦ subst (λ j. IsReady gates taken j) (sym e)
          (record { gate = is.gate; there = is.there; free = is.free; settled = settled_all taken is.gate.pins whole })
      | inr ne ↦ q.ready_are n (sym (set_other ready ready' w.gate n true update ne) ∙ h)
    ];
    waiters_are = q.waiters_are;
    others_wait = λ n within free out calm.
        let ne : n ≡ w.gate → ⊥
        = λ e. both_ways (contains nat_cmp ready' w.gate) (ap (λ j. contains nat_cmp ready' j) (sym e) ∙ out)
        (set_same ready ready' w.gate true update) in
        q.others_wait n within free (sym (set_other ready ready' w.gate n true update ne) ∙ out)
        (without_other pending w.gate n ne calm);
  }
    where
      whole : (i : ℕ) (x : Wire) → slice_get is.gate.pins i ≡ Some x → is_settled taken x ≡ true
      whole i x at = elim (cases_lt i w.pin) [
        | inl below ↦ is.settled.each i x (omega arith) below at
        | inr above ↦ rest.each i x above (slice_get_within is.gate.pins i x at) at
      ]

  pub now_waits : (k d : ℕ) → slice_get is.gate.pins k ≡ Some (Gate d) → taken d ≡ false
      → SettledBetween taken is.gate.pins w.pin k → d < length waiting
      → IsQueue gates taken ready
      (slice_set waiting d (slice_index_or waiting d [] ++ (record { gate = w.gate; pin = k }) ∷ []))
      (without pending w.gate)
  now_waits k d pin free_d rest within_d = record {
    long = length-set waiting d added ∙ q.long;
    ready_are = q.ready_are;
    waiters_are = λ e x free h. elim (cases_eq e d) [
      | inl same ↦
          let here : Has (slice_index_or waiting d [] ++ waiter ∷ []) x
          = subst (λ xs. Has xs x)
          (ap (λ j. slice_index_or (slice_set waiting d added) j []) same
          ∙ get_or-set_same waiting d added [] within_d) h in
          elim (has_within (slice_index_or waiting d []) waiter x here) [
            | inl old ↦ q.waiters_are e x free (subst (λ j. Has (slice_index_or waiting j []) x) (sym same) old)
            | inr last ↦ subst (λ y. WaitsFor gates taken e y) (sym last)
                (subst (λ j. WaitsFor gates taken j waiter) (sym same) new)
          ]
      | inr ne ↦ q.waiters_are e x free (subst (λ xs. Has xs x) (get_or-set_other waiting d e added [] ne) h)
    ];
    others_wait = λ n within free out calm. elim (cases_eq n w.gate) [
      | inl same ↦ record {
        awaited = d;
        waiter = waiter;
        free = free_d;
        listed =
            subst (λ xs. Has xs waiter) (sym (get_or-set_same waiting d added [] within_d))
            (has_last (slice_index_or waiting d []) waiter);
        same = sym same;
      }
      | inr ne ↦
          let old = q.others_wait n within free out (without_other pending w.gate n ne calm) in
          record {
            awaited = old.awaited;
            waiter = old.waiter;
            free = old.free;
            same = old.same;
            listed = elim (cases_eq old.awaited d) [
              | inl same ↦ subst (λ xs. Has xs old.waiter)
                  (sym (ap (λ j. slice_index_or (slice_set waiting d added) j []) same
                  ∙ get_or-set_same waiting d added [] within_d)) (has_more _ waiter old.waiter (subst (λ j. Has
                  (slice_index_or waiting j []) old.waiter) same old.listed))
              | inr apart ↦ subst (λ xs. Has xs old.waiter)
                  (sym (get_or-set_other waiting d old.awaited added [] apart)) old.listed
            ];
          }
    ];
  }
    where
      waiter : Waiter
      waiter = record { gate = w.gate; pin = k }

      added : List Waiter
      added = slice_index_or waiting d [] ++ waiter ∷ []

      new : WaitsFor gates taken d waiter
      new = record {
        gate = is.gate;
        there = is.there;
        free = is.free;
        pin = pin;
        settled = record {
          each =
              λ i x low below at. elim (cases_lt i w.pin) [
                | inl early ↦ is.settled.each i x low early at
                | inr late ↦ rest.each i x late below at
              ];
        };
      }

pub fewer_pending : (gates : List netlist.Gate.Gate) (taken : ℕ → Bool) (ready : BTreeSet ℕ)
    (waiting : List (List Waiter))
    (more fewer : ℕ → Bool) → ((n : ℕ) → n < length gates → fewer n ≡ false → more n ≡ false)
    → IsQueue gates taken ready waiting more → IsQueue gates taken ready waiting fewer
fewer_pending gates taken ready waiting more fewer h q = record {
  long = q.long;
  ready_are = q.ready_are;
  waiters_are = q.waiters_are;
  others_wait = λ n within free out calm. q.others_wait n within free out (h n within calm);
}
