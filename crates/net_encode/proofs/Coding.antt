-- The law of codes: where the places that stand are as the plan says, their codes tell them.
use Rattle.std.proofs.Common.{◌≡◌, ℕ, zero, suc, ◌+◌, ◌-◌, ◌<◌, ◌≤◌, Bool, true, false, ◌&&◌, ◌||◌, ◌⊎◌, inl, inr}
use Rattle.std.proofs.Common.{List, [], ◌∷◌, ◌++◌, length, take, get_or, Some, refl, sym, ap, ◌∙◌, subst, arith}
use Rattle.std.specs.Prelude.{nat_eq, ◌^◌, slice_get, cond}
use Rattle.std.proofs.lemmas.List.{get_or_append_left, get_or-take}
use Rattle.std.proofs.lemmas.Bool.{cases_lt, eqb-true, eq-eqb}
use Rattle.std.proofs.lemmas.Bool.Decides.{nat_tests}
use Rattle.std.proofs.lemmas.Option.{same_Some}
use Rattle.pbs_base.specs.Entries.{bit}
use Rattle.net_core.specs.declared.codes.Code.{Code}
use Rattle.net_core.specs.declared.codes.Code.TheVariants.{Never, Bits}
use Rattle.net_encode.specs.Codes.{width, code_registers, low_bits, literals_from, code_within, code_in, all_hold}
use Rattle.net_encode.specs.Codes.{tells, has_one, code_has_one}
use Rattle.net_encode.specs.inner.Plans.{IsIn, AreDistinct, AreOnce}
use Rattle.net_encode.specs.inner.Columns.{column, group_bits, code_bits}
use Rattle.net_encode.proofs.Bits.{matches_2_is, matches_4_is, matches_8_is, bit_zero, width_few, width_room}

-- ---- one code

pub get_below : (ms : List ℕ) (i p : ℕ) → slice_get ms i ≡ Some p → i < length ms
get_below [] i p h = absurd (cc)
get_below (m ∷ ms) zero p h = omega arith
get_below (m ∷ ms) (suc i) p h = let low = get_below ms i p h in omega (arith, low)

-- registers that hold the bits of x hold all literals of the code c where the two are equal
pub told_low : (r : ℕ → Bool) (first count c x : ℕ) → count ≤ 3 → ((t : ℕ) → t < count → r (first + t) ≡ bit t x)
    → c < 2 ^ count → x < 2 ^ count → all_hold r (literals_from first (low_bits count c)) ≡ nat_eq c x
told_low r first zero c x few bits h l =
    let e : c ≡ 0 = omega arith in
    let e' : x ≡ 0 = omega arith in
    rw (e, e') refl
told_low r first (suc zero) c x few bits h l =
    let zeroth : r first ≡ bit 0 x = let e : first + 0 ≡ first = omega arith in ap r (sym e) ∙ bits 0 (omega arith) in
    rw zeroth (matches_2_is c x h l)
told_low r first (suc (suc zero)) c x few bits h l =
    let zeroth : r first ≡ bit 0 x = let e : first + 0 ≡ first = omega arith in ap r (sym e) ∙ bits 0 (omega arith) in
    let next : r (suc first) ≡ bit 1 x =
    (let e : first + 1 ≡ suc first = omega arith in ap r (sym e) ∙ bits 1 (omega arith))
    in
    rw (zeroth, next) (matches_4_is c x h l)
told_low r first (suc (suc (suc zero))) c x few bits h l =
    let zeroth : r first ≡ bit 0 x = let e : first + 0 ≡ first = omega arith in ap r (sym e) ∙ bits 0 (omega arith) in
    let next : r (suc first) ≡ bit 1 x =
    (let e : first + 1 ≡ suc first = omega arith in ap r (sym e) ∙ bits 1 (omega arith))
    in
    let last : r (suc (suc first)) ≡ bit 2 x =
    (let e : first + 2 ≡ suc (suc first) = omega arith in ap r (sym e) ∙ bits 2 (omega arith)) in
    rw (zeroth, next, last) (matches_8_is c x h l)
told_low r first (suc (suc (suc (suc n)))) c x few bits h l = absurd (omega arith)

-- ---- one group

-- at most one item of the list stands
pub record OneStands (stands : ℕ → Bool) (ms : List ℕ) : Type 0 where
  pub one : (i j p q : ℕ) → slice_get ms i ≡ Some p → slice_get ms j ≡ Some q → stands p ≡ true → stands q ≡ true
      → i ≡ j

pub distinct_tail : (m : ℕ) (ms : List ℕ) → AreDistinct (m ∷ ms) → AreDistinct ms
distinct_tail m ms d = record { distinct = λ i j p a b. let e = d.distinct (suc i) (suc j) p a b in omega (arith, e) }

one_tail : (s : ℕ → Bool) (m : ℕ) (ms : List ℕ) → OneStands s (m ∷ ms) → OneStands s ms
one_tail s m ms o =
    record { one = λ i j p q a b c d. let e = o.one (suc i) (suc j) p q a b c d in omega (arith, e) }

-- where the first item stands, no other does
others_off : (s : ℕ → Bool) (m : ℕ) (ms : List ℕ) → OneStands s (m ∷ ms) → s m ≡ true → (i p : ℕ)
    → slice_get ms i ≡ Some p → s p ≡ false
others_off s m ms o on i p at = not_on (s p) refl
  where
    not_on : (b : Bool) → s p ≡ b → b ≡ false
    not_on false e = refl
    not_on true e = absurd (let same = o.one zero (suc i) m p refl at on e in omega (arith, same))

-- the code of the item that stands, or 0
abbrev standing : (ℕ → Bool) → ℕ → List ℕ → ℕ
standing s c [] = 0
standing s c (m ∷ ms) = cond (s m) c (standing s (suc c) ms)

column_off : (s : ℕ → Bool) (t c : ℕ) (ms : List ℕ) → ((i p : ℕ) → slice_get ms i ≡ Some p → s p ≡ false)
    → column s t c ms ≡ false
column_off s t c [] off = refl
column_off s t c (m ∷ ms) off =
    rw (off zero m refl, column_off s t (suc c) ms (λ i p at. off (suc i) p at)) (and_off (bit t c))
  where
    and_off : (b : Bool) → ((b && false) || false) ≡ false
    and_off true = refl
    and_off false = refl

column_is : (s : ℕ → Bool) (t c : ℕ) (ms : List ℕ) → t < 3 → OneStands s ms
    → column s t c ms ≡ bit t (standing s c ms)
column_is s t c [] h o = sym (bit_zero t h)
column_is s t c (m ∷ ms) h o = by_first (column_is s t (suc c) ms h (one_tail s m ms o)) (s m) refl
  where
    on_case : (b : Bool) → ((b && true) || false) ≡ b
    on_case true = refl
    on_case false = refl

    off_case : (b d : Bool) → ((b && false) || d) ≡ d
    off_case true d = refl
    off_case false d = refl

    by_first : column s t (suc c) ms ≡ bit t (standing s (suc c) ms) → (b : Bool) → s m ≡ b
        → ((bit t c && s m) || column s t (suc c) ms) ≡ bit t (cond (s m) c (standing s (suc c) ms))
    by_first rest true e = rw (e, column_off s t (suc c) ms (others_off s m ms o e)) (on_case (bit t c))
    by_first rest false e = rw e (off_case (bit t c) (column s t (suc c) ms) ∙ rest)

standing_range : (s : ℕ → Bool) (c : ℕ) (ms : List ℕ)
    → (standing s c ms ≡ 0) ⊎ ((c ≤ standing s c ms) × (standing s c ms < c + length ms))
standing_range s c [] = inl refl
standing_range s c (m ∷ ms) = by_first (standing_range s (suc c) ms) (s m) refl
  where
    by_first : (standing s (suc c) ms ≡ 0)
        ⊎ ((suc c ≤ standing s (suc c) ms) × (standing s (suc c) ms < suc c + length ms)) → (b : Bool) → s m ≡ b
        → (cond (s m) c (standing s (suc c) ms) ≡ 0)
        ⊎ ((c ≤ cond (s m) c (standing s (suc c) ms)) × (cond (s m) c (standing s (suc c) ms) < c + suc (length ms)))
    by_first rest true e = rw e (inr (omega arith, omega arith))
    by_first rest false e = rw e (elim rest [
      | inl none ↦ inl none
      | inr (low, high) ↦ inr (omega arith, omega arith)
    ])

-- an item stands exactly where the code is its own
on_code : (s : ℕ → Bool) (c : ℕ) (ms : List ℕ) → 1 ≤ c → OneStands s ms → (i p : ℕ) → slice_get ms i ≡ Some p
    → s p ≡ nat_eq (c + i) (standing s c ms)
on_code s c [] h o i p at = absurd (cc)
on_code s c (m ∷ ms) h o i p at =
    by_first (λ j there. on_code s (suc c) ms (omega arith) (one_tail s m ms o) j p there) (s m) refl i at
  where
    by_first : ((j : ℕ) → slice_get ms j ≡ Some p → s p ≡ nat_eq (suc c + j) (standing s (suc c) ms)) → (b : Bool)
        → s m ≡ b → (i : ℕ) → slice_get (m ∷ ms) i ≡ Some p
        → s p ≡ nat_eq (c + i) (cond (s m) c (standing s (suc c) ms))
    by_first rest true e zero at =
        let same : m ≡ p = same_Some m p at in
        let code : c + 0 ≡ c = omega arith in
        rw (e, ← same, e, code) (sym (eq-eqb c c refl))
    by_first rest true e (suc i) at =
        let apart : c + suc i ≡ c → ⊥ = λ q. omega (arith, q) in
        rw (e, others_off s m ms o e i p at) (grind (arith, nat_tests))
    by_first rest false e zero at =
        let same : m ≡ p = same_Some m p at in
        let range = standing_range s (suc c) ms in
        rw (e, ← same, e) (elim range [
          | inl none ↦ grind (arith, nat_tests)
          | inr (low, high) ↦ grind (arith, nat_tests)
        ])
    by_first rest false e (suc i) at =
        let next : c + suc i ≡ suc c + i = omega arith in
        rw (e, next) (rest i at)

-- the code of the item at a position
pub within_at : (first count c : ℕ) (ms : List ℕ) (leader : ℕ) (other : Code) → AreDistinct ms → (i : ℕ)
    → slice_get ms i ≡ Some leader
    → code_within first count c ms leader other ≡ Bits (literals_from first (low_bits count (c + i)))
within_at first count c [] leader other d i at = absurd (cc)
within_at first count c (m ∷ ms) leader other d zero at =
    let hit : nat_eq m leader ≡ true = eq-eqb m leader (same_Some m leader at) in
    let code : c + 0 ≡ c = omega arith in
    rw (hit, code) refl
within_at first count c (m ∷ ms) leader other d (suc i) at =
    by_first (within_at first count (suc c) ms leader other (distinct_tail m ms d) i at) (nat_eq m leader) refl
  where
    by_first : code_within first count (suc c) ms leader other
        ≡ Bits (literals_from first (low_bits count (suc c + i))) → (b : Bool) → nat_eq m leader ≡ b
        → cond (nat_eq m leader) (Bits (literals_from first (low_bits count c)))
        (code_within first count (suc c) ms leader other)
        ≡ Bits (literals_from first (low_bits count (c + suc i)))
    by_first rest true e =
        let same : m ≡ leader = eqb-true m leader e in
        absurd (let twice = d.distinct zero (suc i) leader (ap Some same) at in omega (arith, twice))
    by_first rest false e =
        let next : c + suc i ≡ suc c + i = omega arith in
        rw (e, next) rest

-- a place that isn't in the group has the other code
pub within_other : (first count c : ℕ) (ms : List ℕ) (leader : ℕ) (other : Code)
    → ((i : ℕ) → slice_get ms i ≡ Some leader → ⊥) → code_within first count c ms leader other ≡ other
within_other first count c [] leader other none = refl
within_other first count c (m ∷ ms) leader other none =
    by_first (within_other first count (suc c) ms leader other (λ i at. none (suc i) at)) (nat_eq m leader) refl
  where
    by_first : code_within first count (suc c) ms leader other ≡ other → (b : Bool) → nat_eq m leader ≡ b
        → cond (nat_eq m leader) (Bits (literals_from first (low_bits count c)))
        (code_within first count (suc c) ms leader other) ≡ other
    by_first rest true e = absurd (none zero (ap Some (eqb-true m leader e)))
    by_first rest false e = rw e rest

-- ---- all groups

pub record AreSmall (groups : List (List ℕ)) : Type 0 where
  pub small : (n : ℕ) (g : List ℕ) → slice_get groups n ≡ Some g → length g ≤ 7

-- at most one member of each group stands
pub record OneEach (stands : ℕ → Bool) (groups : List (List ℕ)) : Type 0 where
  pub each : (n : ℕ) (g : List ℕ) → slice_get groups n ≡ Some g → OneStands stands g

pub first_distinct : (g : List ℕ) (gs : List (List ℕ)) → AreOnce (g ∷ gs) → AreDistinct g
first_distinct g gs o =
    record { distinct = λ i j p a b. (o.once zero zero i j g g p refl refl a b).1 }

pub rest_once : (g : List ℕ) (gs : List (List ℕ)) → AreOnce (g ∷ gs) → AreOnce gs
rest_once g gs o = record {
  once = λ m n i j h k p a b c d. let e = o.once (suc m) (suc n) i j h k p a b c d in (omega (arith, e.0), e.1);
}

-- what stands in a later group isn't in the first
pub not_first : (g : List ℕ) (gs : List (List ℕ)) → AreOnce (g ∷ gs) → (n i p : ℕ) (h : List ℕ)
    → slice_get gs n ≡ Some h → slice_get h i ≡ Some p → (j : ℕ) → slice_get g j ≡ Some p → ⊥
not_first g gs o n i p h at there j first =
    let e = o.once zero (suc n) j i g h p refl at first there in omega (arith, e.0)

rest_small : (g : List ℕ) (gs : List (List ℕ)) → AreSmall (g ∷ gs) → AreSmall gs
rest_small g gs s = record { small = λ n h at. s.small (suc n) h at }

rest_each : (s : ℕ → Bool) (g : List ℕ) (gs : List (List ℕ)) → OneEach s (g ∷ gs) → OneEach s gs
rest_each s g gs o = record { each = λ n h at. o.each (suc n) h at }

length_group_bits : (s : ℕ → Bool) (g : List ℕ) → length (group_bits s g) ≡ width (length g)
length_group_bits s g = few_of (width (length g)) (width_few (length g))
  where
    few_of : (w : ℕ) → w ≤ 3 → length (take w (column s 0 1 g ∷ column s 1 1 g ∷ column s 2 1 g ∷ [])) ≡ w
    few_of zero h = refl
    few_of (suc zero) h = refl
    few_of (suc (suc zero)) h = refl
    few_of (suc (suc (suc zero))) h = refl
    few_of (suc (suc (suc (suc w)))) h = absurd (omega arith)

group_bit : (s : ℕ → Bool) (g : List ℕ) (t : ℕ) → t < width (length g)
    → get_or (group_bits s g) t false ≡ column s t 1 g
group_bit s g t h =
    get_or-take (width (length g)) (column s 0 1 g ∷ column s 1 1 g ∷ column s 2 1 g ∷ []) t false h
    ∙ of_three t (let w = width_few (length g) in omega (arith, w, h))
  where
    of_three : (t : ℕ) → t < 3
        → get_or (column s 0 1 g ∷ column s 1 1 g ∷ column s 2 1 g ∷ []) t false ≡ column s t 1 g
    of_three zero h = refl
    of_three (suc zero) h = refl
    of_three (suc (suc zero)) h = refl
    of_three (suc (suc (suc t))) h = absurd (omega arith)

first_bit : (s : ℕ → Bool) (g : List ℕ) (gs : List (List ℕ)) (t : ℕ) → t < width (length g)
    → get_or (code_bits s (g ∷ gs)) t false ≡ column s t 1 g
first_bit s g gs t h =
    get_or_append_left (group_bits s g) (code_bits s gs) false t (let e = length_group_bits s g in omega (arith, e, h))
    ∙ group_bit s g t h

later_bit : (s : ℕ → Bool) (g : List ℕ) (gs : List (List ℕ)) (t : ℕ)
    → get_or (code_bits s (g ∷ gs)) (width (length g) + t) false ≡ get_or (code_bits s gs) t false
later_bit s g gs t =
    ap (λ n. get_or (group_bits s g ++ code_bits s gs) (n + t) false) (sym (length_group_bits s g))
    ∙ skip (group_bits s g) (code_bits s gs) t
  where
    skip : (xs ys : List Bool) (t : ℕ) → get_or (xs ++ ys) (length xs + t) false ≡ get_or ys t false
    skip [] ys t = let e : 0 + t ≡ t = omega arith in ap (λ n. get_or ys n false) e
    skip (x ∷ xs) ys t =
        let e : suc (length xs) + t ≡ suc (length xs + t) = omega arith in
        ap (λ n. get_or (x ∷ (xs ++ ys)) n false) e ∙ skip xs ys t

-- the registers of a group hold the code of the member that stands, or 0
pub record HoldsCode (s r : ℕ → Bool) (h : List ℕ) (first i p : ℕ) : Type 0 where
  pub code : ℕ
  pub low : code ≤ length h
  pub bits : (t : ℕ) → t < width (length h) → r (first + t) ≡ bit t code
  pub own : s p ≡ nat_eq (1 + i) code

pub holds : (s r : ℕ → Bool) (groups : List (List ℕ)) (first : ℕ) → OneEach s groups
    → ((i : ℕ) → i < code_registers groups → r (first + i) ≡ get_or (code_bits s groups) i false)
    → (n i p : ℕ) (h : List ℕ) → slice_get groups n ≡ Some h → slice_get h i ≡ Some p
    → HoldsCode s r h (first + code_registers (take n groups)) i p
holds s r [] first each bits n i p h at there = absurd (cc)
holds s r (g ∷ gs) first each bits zero i p h at there =
    let same : g ≡ h = same_Some g h at in
    let there' : slice_get g i ≡ Some p = ap (λ l. slice_get l i) same ∙ there in
    let few = width_few (length g) in
    let one = each.each zero g refl in
    subst (λ l. HoldsCode s r l (first + 0) i p) same (record {
      code = standing s 1 g;
      low = elim (standing_range s 1 g) [ inl none ↦ omega (arith, none) | inr (low, high) ↦ omega (arith, high) ];
      bits = λ t l.
          let e : first + 0 + t ≡ first + t = omega arith in
          ap r e ∙ bits t (omega (arith, l)) ∙ first_bit s g gs t l ∙ column_is s t 1 g (omega (arith, l, few)) one;
      own = on_code s 1 g (omega arith) one i p there';
    })
holds s r (g ∷ gs) first each bits (suc n) i p h at there =
    let w = width (length g) in
    let e : first + w + code_registers (take n gs) ≡ first + (w + code_registers (take n gs)) = omega arith in
    subst (λ f. HoldsCode s r h f i p) e (holds s r gs (first + w) (rest_each s g gs each)
    (λ k l.
    let e : first + w + k ≡ first + (w + k) = omega arith in
    ap r e ∙ bits (w + k) (omega (arith, l)) ∙ later_bit s g gs k)
    n i p h at there)

-- registers that hold the bits of the groups tell each member
pub told : (s r : ℕ → Bool) (groups : List (List ℕ)) (first : ℕ) → AreSmall groups → OneEach s groups → AreOnce groups
    → ((i : ℕ) → i < code_registers groups → r (first + i) ≡ get_or (code_bits s groups) i false)
    → (n i p : ℕ) (h : List ℕ) → slice_get groups n ≡ Some h → slice_get h i ≡ Some p
    → tells r (code_in first groups p) ≡ s p
told s r [] first small each once bits n i p h at there = absurd (cc)
told s r (g ∷ gs) first small each once bits zero i p h at there =
    let same : g ≡ h = same_Some g h at in
    let there' : slice_get g i ≡ Some p = ap (λ l. slice_get l i) same ∙ there in
    let w = width (length g) in
    let room = width_room (length g) (small.small zero g refl) in
    let few = width_few (length g) in
    let one = each.each zero g refl in
    let x = standing s 1 g in
    let below = get_below g i p there' in
    let held = λ (t : ℕ) (l : t < w).
    bits t (omega (arith, l)) ∙ first_bit s g gs t l ∙ column_is s t 1 g (omega (arith, l, few)) one in
    let x_low : x < 2 ^ w = elim (standing_range s 1 g) [
      | inl none ↦ omega (arith, none, room)
      | inr (low, high) ↦ omega (arith, high, room)
    ] in
    ap (tells r) (within_at first w 1 g p (code_in (first + w) gs p) (first_distinct g gs once) i there')
    ∙ told_low r first w (1 + i) x few held (omega (arith, below, room)) x_low
    ∙ sym (on_code s 1 g (omega arith) one i p there')
told s r (g ∷ gs) first small each once bits (suc n) i p h at there =
    let w = width (length g) in
    ap (tells r)
    (within_other first w 1 g p (code_in (first + w) gs p) (not_first g gs once n i p h at there))
    ∙ told s r gs (first + w) (rest_small g gs small) (rest_each s g gs each) (rest_once g gs once)
    (λ k l.
    let e : first + w + k ≡ first + (w + k) = omega arith in
    ap r e ∙ bits (w + k) (omega (arith, l)) ∙ later_bit s g gs k)
    n i p h at there

-- ---- which registers are 1

-- a column that is 1 has a member that stands
column_some : (s : ℕ → Bool) (t c : ℕ) (ms : List ℕ) → column s t c ms ≡ true
    → (i : ℕ) × (p : ℕ) × (slice_get ms i ≡ Some p) × (s p ≡ true) × (bit t (c + i) ≡ true)
column_some s t c [] on = absurd (cc)
column_some s t c (m ∷ ms) on =
    by_first (λ rest. column_some s t (suc c) ms rest) (bit t c) (s m) refl refl on
  where
    Found : Type 0
    Found = (i : ℕ) × (p : ℕ) × (slice_get (m ∷ ms) i ≡ Some p) × (s p ≡ true) × (bit t (c + i) ≡ true)

    later : (i : ℕ) × (p : ℕ) × (slice_get ms i ≡ Some p) × (s p ≡ true) × (bit t (suc c + i) ≡ true)
        → (i : ℕ) × (p : ℕ) × (slice_get (m ∷ ms) i ≡ Some p) × (s p ≡ true) × (bit t (c + i) ≡ true)
    later found =
        let e : c + suc found.0 ≡ suc c + found.0 = omega arith in
        (suc found.0, found.1, found.2, found.3, ap (bit t) e ∙ found.4)

    by_first : (column s t (suc c) ms ≡ true
        → (i : ℕ) × (p : ℕ) × (slice_get ms i ≡ Some p) × (s p ≡ true) × (bit t (suc c + i) ≡ true))
        → (a b : Bool) → bit t c ≡ a → s m ≡ b → ((a && b) || column s t (suc c) ms) ≡ true
        → (i : ℕ) × (p : ℕ) × (slice_get (m ∷ ms) i ≡ Some p) × (s p ≡ true) × (bit t (c + i) ≡ true)
    by_first rest true true e f on = let z : c + 0 ≡ c = omega arith in (zero, m, refl, f, ap (bit t) z ∙ e)
    by_first rest true false e f on = later (rest on)
    by_first rest false true e f on = later (rest on)
    by_first rest false false e f on = later (rest on)

column_on : (s : ℕ → Bool) (t c : ℕ) (ms : List ℕ) (i p : ℕ) → slice_get ms i ≡ Some p → s p ≡ true
    → bit t (c + i) ≡ true → column s t c ms ≡ true
column_on s t c [] i p at on one = absurd (cc)
column_on s t c (m ∷ ms) zero p at on one =
    let same : m ≡ p = same_Some m p at in
    let z : c + 0 ≡ c = omega arith in
    let here : bit t c ≡ true = ap (bit t) (sym z) ∙ one in
    rw (here, same, on) refl
column_on s t c (m ∷ ms) (suc i) p at on one =
    let e : c + suc i ≡ suc c + i = omega arith in
    rw (column_on s t (suc c) ms i p at on (ap (bit t) (sym e) ∙ one)) (or_on (bit t c && s m))
  where
    or_on : (b : Bool) → (b || true) ≡ true
    or_on true = refl
    or_on false = refl

-- the literals of a code with value true are those of its bits that are 1
has_bit : (first i w c : ℕ) → w ≤ 3 → i < w → bit i c ≡ true
    → has_one (first + i) (literals_from first (low_bits w c)) ≡ true
has_bit first zero (suc w) c few h on =
    let e : first + 0 ≡ first = omega arith in
    rw (e, eq-eqb first first refl, on) refl
has_bit first (suc zero) (suc (suc w)) c few h on =
    let e : first + 1 ≡ suc first = omega arith in
    rw (e, eq-eqb (suc first) (suc first) refl, on) (or_on (nat_eq first (suc first) && bit 0 c))
  where
    or_on : (b : Bool) → (b || true) ≡ true
    or_on true = refl
    or_on false = refl
has_bit first (suc (suc zero)) (suc (suc (suc w))) c few h on =
    let e : first + 2 ≡ suc (suc first) = omega arith in
    rw (e, eq-eqb (suc (suc first)) (suc (suc first)) refl, on)
    (or_two (nat_eq first (suc (suc first)) && bit 0 c) (nat_eq (suc first) (suc (suc first)) && bit 1 c))
  where
    or_two : (a b : Bool) → (a || (b || true)) ≡ true
    or_two true b = refl
    or_two false true = refl
    or_two false false = refl
has_bit first i w c few h on = absurd (omega arith)

one_of : (a b rest : Bool) → ((a && b) || rest) ≡ true → ((a ≡ true) × (b ≡ true)) ⊎ (rest ≡ true)
one_of true true rest on = inl (refl, refl)
one_of true false rest on = inr on
one_of false b rest on = inr on

bit_had : (r first : ℕ) (w c : ℕ) → w ≤ 3 → has_one r (literals_from first (low_bits w c)) ≡ true
    → (i : ℕ) × (i < w) × (r ≡ first + i) × (bit i c ≡ true)
bit_had r first zero c few on = absurd (cc)
bit_had r first (suc zero) c few on = elim (one_of (nat_eq first r) (bit 0 c) false on) [
  | inl (a, b) ↦ let e = eqb-true first r a in (0, omega arith, omega arith, b)
  | inr none ↦ absurd (cc)
]
bit_had r first (suc (suc zero)) c few on =
    elim (one_of (nat_eq first r) (bit 0 c) ((nat_eq (suc first) r && bit 1 c) || false) on) [
      | inl (a, b) ↦ let e = eqb-true first r a in (0, omega arith, omega arith, b)
      | inr more ↦ elim (one_of (nat_eq (suc first) r) (bit 1 c) false more) [
        | inl (a, b) ↦ let e = eqb-true (suc first) r a in (1, omega arith, omega arith, b)
        | inr none ↦ absurd (cc)
      ]
    ]
bit_had r first (suc (suc (suc zero))) c few on =
    elim (one_of (nat_eq first r) (bit 0 c)
    ((nat_eq (suc first) r && bit 1 c) || ((nat_eq (suc (suc first)) r && bit 2 c) || false)) on) [
      | inl (a, b) ↦ let e = eqb-true first r a in (0, omega arith, omega arith, b)
      | inr more ↦
          elim (one_of (nat_eq (suc first) r) (bit 1 c) ((nat_eq (suc (suc first)) r && bit 2 c) || false) more) [
            | inl (a, b) ↦ let e = eqb-true (suc first) r a in (1, omega arith, omega arith, b)
            | inr more ↦ elim (one_of (nat_eq (suc (suc first)) r) (bit 2 c) false more) [
              | inl (a, b) ↦ let e = eqb-true (suc (suc first)) r a in (2, omega arith, omega arith, b)
              | inr none ↦ absurd (cc)
            ]
          ]
    ]
bit_had r first (suc (suc (suc (suc w)))) c few on = absurd (omega arith)

-- a member that stands, and that has this register's literal with value true
pub record Shown (s : ℕ → Bool) (groups : List (List ℕ)) (first i : ℕ) : Type 0 where
  pub place : ℕ
  pub within : IsIn groups place
  pub stands : s place ≡ true
  pub one : code_has_one (first + i) (code_in first groups place) ≡ true

pub shown : (s : ℕ → Bool) (groups : List (List ℕ)) (first i : ℕ) → AreOnce groups
    → get_or (code_bits s groups) i false ≡ true → Shown s groups first i
shown s [] first i once on = absurd (cc)
shown s (g ∷ gs) first i once on =
    let w = width (length g) in
    let few = width_few (length g) in
    elim (cases_lt i w) [
      | inl low ↦
          let found = column_some s i 1 g (sym (first_bit s g gs i low) ∙ on) in
          record {
            place = found.1;
            within = record { group = g; number = 0; at = refl; position = found.0; there = found.2 };
            stands = found.3;
            one =
                ap (code_has_one (first + i))
                (within_at first w 1 g found.1 (code_in (first + w) gs found.1) (first_distinct g gs once) found.0
                found.2)
                ∙ has_bit first i w (1 + found.0) few low found.4;
          }
      | inr high ↦
          let k = i - w in
          let e : w + k ≡ i = omega (arith, high) in
          let e' : first + i ≡ first + w + k = omega (arith, high) in
          let rest : Shown s gs (first + w) k =
          shown s gs (first + w) k (rest_once g gs once)
          (sym (later_bit s g gs k) ∙ ap (λ n. get_or (code_bits s (g ∷ gs)) n false) e ∙ on) in
          record {
            place = rest.place;
            within = record {
              group = rest.within.group;
              number = suc rest.within.number;
              at = rest.within.at;
              position = rest.within.position;
              there = rest.within.there;
            };
            stands = rest.stands;
            one =
                ap (code_has_one (first + i))
                (within_other first w 1 g rest.place (code_in (first + w) gs rest.place)
                (not_first g gs once rest.within.number rest.within.position rest.place rest.within.group
                rest.within.at rest.within.there))
                ∙ ap (λ r. code_has_one r (code_in (first + w) gs rest.place)) e' ∙ rest.one;
          }
    ]

pub on_where : (s : ℕ → Bool) (groups : List (List ℕ)) (first r : ℕ) → AreOnce groups
    → (n j p : ℕ) (h : List ℕ) → slice_get groups n ≡ Some h → slice_get h j ≡ Some p → s p ≡ true
    → code_has_one r (code_in first groups p) ≡ true
    → (i : ℕ) × (r ≡ first + i) × (get_or (code_bits s groups) i false ≡ true)
on_where s [] first r once n j p h at there on one = absurd (cc)
on_where s (g ∷ gs) first r once zero j p h at there on one =
    let w = width (length g) in
    let few = width_few (length g) in
    let there' : slice_get g j ≡ Some p = ap (λ l. slice_get l j) (same_Some g h at) ∙ there in
    let had = bit_had r first w (1 + j) few
    (ap (code_has_one r)
    (sym (within_at first w 1 g p (code_in (first + w) gs p) (first_distinct g gs once) j there')) ∙ one) in
    (had.0, had.2, first_bit s g gs had.0 had.1 ∙ column_on s had.0 1 g j p there' on had.3)
on_where s (g ∷ gs) first r once (suc n) j p h at there on one =
    let w = width (length g) in
    let rest = on_where s gs (first + w) r (rest_once g gs once) n j p h at there on
    (ap (code_has_one r)
    (sym (within_other first w 1 g p (code_in (first + w) gs p) (not_first g gs once n j p h at there))) ∙ one) in
    let e = rest.1 in
    (w + rest.0, omega (arith, e), later_bit s g gs rest.0 ∙ rest.2)

-- a place in no group never stands
pub in_no_group : (first : ℕ) (groups : List (List ℕ)) (p : ℕ) → (IsIn groups p → ⊥) → code_in first groups p ≡ Never
in_no_group first [] p none = refl
in_no_group first (g ∷ gs) p none =
    within_other first (width (length g)) 1 g p (code_in (first + width (length g)) gs p)
    (λ i at. none (record { group = g; number = 0; at = refl; position = i; there = at }))
    ∙ in_no_group (first + width (length g)) gs p (λ later. none (record {
      group = later.group;
      number = suc later.number;
      at = later.at;
      position = later.position;
      there = later.there;
    }))
