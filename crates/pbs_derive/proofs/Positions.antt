-- Positions that pass a test: what the bounded tests of the definitions mean, and when two of them are equal.
use Rattle.std.proofs.Common.{◌≡◌, ℕ, zero, suc, ◌+◌, ◌-◌, ◌<◌, ◌≤◌, Bool, true, false, not, ◌&&◌, ◌||◌, nat_lt, nat_le}
use Rattle.std.proofs.Common.{eqb, List, slice_index, inl, inr, refl, sym, ◌∙◌, ap, arith}
use Rattle.std.proofs.lemmas.Bool.{and_parts, and_from, or_left, or_right, false≢true, ltb-true, leb-true, eqb-true}
use Rattle.std.proofs.lemmas.Bool.{lt-ltb, le-leb, eq-eqb, cases_Bool, cases_lt, both_ways}
use Rattle.bool_terms.specs.Terms.{Term, holds}
use Rattle.pbs_derive.specs.Derivations.{some_below, some_within, some_after, first_after, all_hold, SameTo}

pub or_elim : {C : Type 0} (x y : Bool) → (x || y) ≡ true → (x ≡ true → C) → (y ≡ true → C) → C
or_elim true y h f g = f refl
or_elim false y h f g = g h

-- two tests with the same meaning are equal
pub same_test : (x y : Bool) → (x ≡ true → y ≡ true) → (y ≡ true → x ≡ true) → x ≡ y
same_test true y f g = sym (f refl)
same_test false true f g = g refl
same_test false false f g = refl

pub or_same : (a b c d : Bool) → a ≡ b → c ≡ d → (a || c) ≡ (b || d)
or_same a b c d p q = cc

pub and_same : (a b c d : Bool) → a ≡ b → c ≡ d → (a && c) ≡ (b && d)
and_same a b c d p q = cc

-- the second test has to agree only where the first one holds
pub and_where : (a b c : Bool) → (a ≡ true → b ≡ c) → (a && b) ≡ (a && c)
and_where true b c f = f refl
and_where false b c f = refl

pub not_true_from : (x : Bool) → (x ≡ true → ⊥) → not x ≡ true
not_true_from true f = absurd (f refl)
not_true_from false f = refl

pub not_false_to : (x : Bool) → not x ≡ true → x ≡ true → ⊥
not_false_to true e f = false≢true e
not_false_to false e f = false≢true f

pub false_from : (x : Bool) → (x ≡ true → ⊥) → x ≡ false
false_from true f = absurd (f refl)
false_from false f = refl

-- Below a bound.

pub some_below_to : (n : ℕ) (test : ℕ → Bool) → some_below n test ≡ true → (m : ℕ) × (m < n) × (test m ≡ true)
some_below_to zero test e = absurd (false≢true e)
some_below_to (suc n) test e =
    or_elim _ _ e
    (λ here. (n, omega arith, here))
    (λ below. let w = some_below_to n test below in let lt : w.0 < n = w.1 in (w.0, omega arith, w.2))

pub some_below_from : (n : ℕ) (test : ℕ → Bool) (m : ℕ) → m < n → test m ≡ true → some_below n test ≡ true
some_below_from zero test m lt e = absurd (omega arith)
some_below_from (suc n) test m lt e =
    elim (cases_Bool (eqb m n)) [
      | inl same ↦ let q : m ≡ n = eqb-true m n same in or_left _ _ (ap test (sym q) ∙ e)
      | inr other ↦ or_right _ _
          (some_below_from n test m (let ne : m ≡ n → ⊥ = λ q. both_ways _ other (eq-eqb m n q) in omega arith) e)
    ]

-- the least of the numbers that pass
pub least_below : (n : ℕ) (test : ℕ → Bool) → some_below n test ≡ true
    → (m : ℕ) × (m < n) × (test m ≡ true) × ((q : ℕ) → q < m → test q ≡ true → ⊥)
least_below zero test e = absurd (false≢true e)
least_below (suc n) test e =
    elim (cases_Bool (some_below n test)) [
      | inl below ↦ let w = least_below n test below in let lt : w.0 < n = w.1 in (w.0, omega arith, w.2, w.3)
      | inr none ↦ or_elim (test n) (some_below n test) e
          (λ here. (n, omega arith, here, λ q lt t. both_ways _ none (some_below_from n test q lt t)))
          (λ below. absurd (both_ways _ none below))
    ]

pub below_same : (n : ℕ) (f g : ℕ → Bool) → ((m : ℕ) → m < n → f m ≡ g m) → some_below n f ≡ some_below n g
below_same zero f g h = refl
below_same (suc n) f g h = or_same _ _ _ _ (h n (omega arith)) (below_same n f g (λ m lt. h m (omega arith)))

-- From i to j.

pub within_to : (i j : ℕ) (test : ℕ → Bool) → some_within i j test ≡ true → (m : ℕ) × (i ≤ m) × (m ≤ j)
    × (test m ≡ true)
within_to i j test e =
    let w = some_below_to (j + 1) (λ m. nat_le i m && test m) e in
    let p = and_parts (nat_le i w.0) (test w.0) w.2 in
    let lt : w.0 < j + 1 = w.1 in
    (w.0, leb-true i w.0 p.0, omega arith, p.1)

pub within_from : (i j : ℕ) (test : ℕ → Bool) (m : ℕ) → i ≤ m → m ≤ j → test m ≡ true → some_within i j test ≡ true
within_from i j test m low high e =
    some_below_from (j + 1) (λ m. nat_le i m && test m) m (omega arith) (and_from _ _ (le-leb i m low) e)

-- a position that splits the range passes both tests
pub split_to : (i j : ℕ) (f g : ℕ → Bool) → some_within i j (λ m. f m && g m) ≡ true
    → (m : ℕ) × (i ≤ m) × (m ≤ j) × (f m ≡ true) × (g m ≡ true)
split_to i j f g e =
    let w = within_to i j (λ m. f m && g m) e in
    let p = and_parts (f w.0) (g w.0) w.3 in
    (w.0, w.1, w.2, p.0, p.1)

pub split_from : (i j : ℕ) (f g : ℕ → Bool) (m : ℕ) → i ≤ m → m ≤ j → f m ≡ true → g m ≡ true
    → some_within i j (λ m. f m && g m) ≡ true
split_from i j f g m low high a b = within_from i j (λ m. f m && g m) m low high (and_from _ _ a b)

pub none_within : (i j : ℕ) (test : ℕ → Bool) → ((m : ℕ) → i ≤ m → m ≤ j → test m ≡ false)
    → some_within i j test ≡ false
none_within i j test none =
    false_from _ (λ e. let w = within_to i j test e in both_ways _ (none w.0 w.1 w.2) w.3)

pub within_same : (i j : ℕ) (f g : ℕ → Bool) → ((m : ℕ) → i ≤ m → m ≤ j → f m ≡ g m)
    → some_within i j f ≡ some_within i j g
within_same i j f g h =
    below_same (j + 1) (λ m. nat_le i m && f m) (λ m. nat_le i m && g m)
    (λ m lt. and_where (nat_le i m) (f m) (g m) (λ low. h m (leb-true i m low) (omega arith)))

-- After i, up to j.

pub after_to : (i j : ℕ) (test : ℕ → Bool) → some_after i j test ≡ true → (m : ℕ) × (i < m) × (m ≤ j) × (test m ≡ true)
after_to i j test e =
    let w = some_below_to (j + 1) (λ m. nat_lt i m && test m) e in
    let p = and_parts (nat_lt i w.0) (test w.0) w.2 in
    let lt : w.0 < j + 1 = w.1 in
    (w.0, ltb-true i w.0 p.0, omega arith, p.1)

pub after_from : (i j : ℕ) (test : ℕ → Bool) (m : ℕ) → i < m → m ≤ j → test m ≡ true → some_after i j test ≡ true
after_from i j test m low high e =
    some_below_from (j + 1) (λ m. nat_lt i m && test m) m (omega arith) (and_from _ _ (lt-ltb i m low) e)

-- the range after i is the range from i + 1
pub within_next : (i j : ℕ) (test : ℕ → Bool) → some_within (i + 1) j test ≡ some_after i j test
within_next i j test =
    same_test _ _
    (λ e. let w = within_to (i + 1) j test e in let low : i + 1 ≤ w.0 = w.1 in
    after_from i j test w.0 (omega arith) w.2 w.3)
    (λ e. let w = after_to i j test e in let low : i < w.0 = w.1 in within_from (i + 1) j test w.0
    (omega arith) w.2 w.3)

-- no number of (i,j] passes the test
abbrev pub NoneAfter : ℕ → ℕ → (ℕ → Bool) → Type 0
NoneAfter i j test = (m : ℕ) → i < m → m ≤ j → test m ≡ true → ⊥

pub none_to : (i j : ℕ) (test : ℕ → Bool) → not (some_after i j test) ≡ true → NoneAfter i j test
none_to i j test e m low high t = not_false_to _ e (after_from i j test m low high t)

pub none_from : (i j : ℕ) (test : ℕ → Bool) → NoneAfter i j test → not (some_after i j test) ≡ true
none_from i j test none = not_true_from _ (λ e. let w = after_to i j test e in none w.0 w.1 w.2 w.3)

pub after_same : (i j : ℕ) (f g : ℕ → Bool) → ((m : ℕ) → i < m → m ≤ j → f m ≡ g m)
    → some_after i j f ≡ some_after i j g
after_same i j f g h =
    below_same (j + 1) (λ m. nat_lt i m && f m) (λ m. nat_lt i m && g m)
    (λ m lt. and_where (nat_lt i m) (f m) (g m) (λ low. h m (ltb-true i m low) (omega arith)))

-- The first after i, up to j.

pub first_to : (i j : ℕ) (test then : ℕ → Bool) → first_after i j test then ≡ true
    → (m : ℕ) × (i < m) × (m ≤ j) × (test m ≡ true) × NoneAfter i (m - 1) test × (then m ≡ true)
first_to i j test then e =
    let w = after_to i j _ e in
    let m = w.0 in
    let p = and_parts (test m && not (some_below m (λ n. nat_lt i n && test n))) (then m) w.3 in
    let q = and_parts (test m) _ p.0 in (
      m,
      w.1,
      w.2,
      q.0,
      (λ n low high t. not_false_to _ q.1
          (some_below_from m (λ n. nat_lt i n && test n) n (let lt : i < m = w.1 in omega arith)
          (and_from _ _ (lt-ltb i n low) t))),
      p.1,
    )

pub first_from : (i j : ℕ) (test then : ℕ → Bool) (m : ℕ) → i < m → m ≤ j → test m ≡ true → NoneAfter i (m - 1) test
    → then m ≡ true
    → first_after i j test then ≡ true
first_from i j test then m low high t none e =
    after_from i j _ m low high
    (and_from _ _ (and_from _ _ t (not_true_from _ (λ some.
    let w = some_below_to m (λ n. nat_lt i n && test n) some in
    let p = and_parts (nat_lt i w.0) (test w.0) w.2 in
    let lt : w.0 < m = w.1 in
    none w.0 (ltb-true i w.0 p.0) (omega arith) p.1))) e)

-- where some number passes there is a first one
pub first_of : (i j : ℕ) (test : ℕ → Bool) → some_after i j test ≡ true → (m : ℕ) × (i < m) × (m ≤ j)
    × (test m ≡ true) × NoneAfter i (m - 1) test
first_of i j test e =
    let w = least_below (j + 1) (λ m. nat_lt i m && test m) e in
    let p = and_parts (nat_lt i w.0) (test w.0) w.2 in
    let lt : w.0 < j + 1 = w.1 in (
      w.0,
      ltb-true i w.0 p.0,
      omega arith,
      p.1,
      λ n low high t. w.3 n (let lower : i < w.0 = ltb-true i w.0 p.0 in
          omega arith) (and_from _ _ (lt-ltb i n low) t),
    )

-- two first numbers are the same
pub first_once : (i m n : ℕ) (test : ℕ → Bool) → i < m → test m ≡ true → NoneAfter i (m - 1) test → i < n
    → test n ≡ true → NoneAfter i (n - 1) test → m ≡ n
first_once i m n test low here none low' there none' =
    elim (cases_lt m n) [
      | inl lt ↦ absurd (none' m low (omega arith) here)
      | inr ge ↦ elim (cases_lt n m) [ inl lt ↦ absurd (none n low' (omega arith) there) | inr le ↦ omega arith ]
    ]

pub first_same : (i j : ℕ) (f g p q : ℕ → Bool) → ((m : ℕ) → i < m → m ≤ j → f m ≡ g m)
    → ((m : ℕ) → i < m → m ≤ j → p m ≡ q m)
    → first_after i j f p ≡ first_after i j g q
first_same i j f g p q h k =
    after_same i j (λ m. f m && not (some_below m (λ n. nat_lt i n && f n)) && p m)
    (λ m. g m && not (some_below m (λ n. nat_lt i n && g n)) && q m)
    (λ m low high. and_same _ _ _ _
    (and_same _ _ _ _ (h m low high)
    (ap not (below_same m (λ n. nat_lt i n && f n) (λ n. nat_lt i n && g n)
    (λ n lt. and_where (nat_lt i n) (f n) (g n) (λ a. h n (ltb-true i n a) (omega arith))))))
    (k m low high))

-- at the first number that passes a choice goes over to what comes after it
pub tripped : (i j : ℕ) (test then : ℕ → Bool) (b : Bool) (m : ℕ) → i < m → m ≤ j → test m ≡ true
    → NoneAfter i (m - 1) test
    → (not (some_after i j test) && b || first_after i j test then) ≡ then m
tripped i j test then b m low high t none =
    same_test _ _
    (λ e. or_elim (not (some_after i j test) && b) (first_after i j test then) e
    (λ l. absurd (none_to i j test (and_parts _ b l).0 m low high t))
    (λ r. let w = first_to i j test then r in ap then (first_once i m w.0 test low t none w.1 w.3 w.4) ∙ w.5))
    (λ e. or_right _ _ (first_from i j test then m low high t none e))

pub untripped : (i j : ℕ) (test then : ℕ → Bool) (b : Bool) → NoneAfter i j test
    → (not (some_after i j test) && b || first_after i j test then) ≡ b
untripped i j test then b none =
    same_test _ _
    (λ e. or_elim (not (some_after i j test) && b) (first_after i j test then) e
    (λ l. (and_parts (not (some_after i j test)) b l).1)
    (λ r. let w = first_to i j test then r in absurd (none w.0 w.1 w.2 w.3)))
    (λ e. or_left _ _ (and_from _ _ (none_from i j test none) e))

-- In each position from i on, below k.

-- the test is passed at each of them
abbrev pub each_within : ℕ → ℕ → (ℕ → Bool) → Bool
each_within i k test = not (some_below k (λ m. nat_le i m && not (test m)))

pub each_to : (i k : ℕ) (test : ℕ → Bool) → each_within i k test ≡ true → (m : ℕ) → i ≤ m → m < k → test m ≡ true
each_to i k test e m low high =
    elim (cases_Bool (test m)) [
      | inl held ↦ held
      | inr fails ↦ absurd (not_false_to _ e (some_below_from k (λ m. nat_le i m && not (test m)) m high
          (and_from _ _ (le-leb i m low) (ap not fails))))
    ]

pub each_from : (i k : ℕ) (test : ℕ → Bool) → ((m : ℕ) → i ≤ m → m < k → test m ≡ true) → each_within i k test ≡ true
each_from i k test f = not_true_from _ (λ some.
    let w = some_below_to k (λ m. nat_le i m && not (test m)) some in
    let p = and_parts (nat_le i w.0) (not (test w.0)) w.2 in
    not_false_to _ p.1 (f w.0 (leb-true i w.0 p.0) w.1))

pub all_hold_to : (t : Term) (v : List ℕ) (i k : ℕ) → all_hold t v i k ≡ true
    → (m : ℕ) → i ≤ m → m < k → holds t (slice_index v m) ≡ true
all_hold_to t v i k = each_to i k (λ m. holds t (slice_index v m))

pub all_hold_from : (t : Term) (v : List ℕ) (i k : ℕ) → ((m : ℕ) → i ≤ m → m < k → holds t (slice_index v m) ≡ true)
    → all_hold t v i k ≡ true
all_hold_from t v i k = each_from i k (λ m. holds t (slice_index v m))

pub hold_same : (t : Term) (v w : List ℕ) (n i j : ℕ) → SameTo n v w → j ≤ n → all_hold t v i j ≡ all_hold t w i j
hold_same t v w n i j same le =
    ap not (below_same j (λ m. nat_le i m && not (holds t (slice_index v m)))
    (λ m. nat_le i m && not (holds t (slice_index w m)))
    (λ m lt. ap (λ x. nat_le i m && not (holds t x)) (same m (omega arith))))
