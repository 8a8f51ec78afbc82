-- The needed literals of a code tell it from the others of its group.
use Rattle.std.proofs.Common.{◌≡◌, ℕ, zero, suc, ◌+◌, ◌<◌, ◌≤◌, ◌⊎◌, inl, inr, arith, Bool, true, false, ◌&&◌}
use Rattle.std.proofs.Common.{List, [], ◌∷◌, ◌++◌, length, take, get_or, Some, None, refl, sym, ap, ◌∙◌, subst}
use Rattle.std.specs.Prelude.{Option, cond, nat_eq, slice_get}
use Rattle.std.proofs.Common.{length-append}
use Rattle.std.proofs.lemmas.Bool.{cases_lt}
use Rattle.std.proofs.lemmas.Option.{same_Some}
use Rattle.pbs_base.specs.Entries.{bit}
use Rattle.net_core.specs.declared.codes.Literal.{Literal}
use Rattle.net_core.specs.declared.codes.Code.{Code}
use Rattle.net_core.specs.declared.codes.CodePlan.{CodePlan}
use Rattle.net_core.specs.Plans.{leader_of}
use Rattle.net_core.proofs.Pushed.{get_pushed, length_pushed}
use Rattle.net_encode.specs.declared.seats.Seat.{Seat}
use Rattle.net_encode.specs.Codes.{Obeys, agrees, all_hold, code_registers, tells, width}
use Rattle.net_encode.specs.inner.Columns.{code_bits}
use Rattle.net_encode.specs.inner.Drafts.{AreFew, AreFewCodes, IsFewCode}
use Rattle.net_encode.specs.inner.Plans.{IsIn, IsPlan}
use Rattle.net_encode.specs.inner.Seats.{IsSeat, IsSeatOf}
use Rattle.net_encode.specs.inner.Telling.{AreTelling, IsTelling, is_needed, needed_literal, telling_at, telling_literals}
use Rattle.net_encode.proofs.Bits.{width_few}
use Rattle.net_encode.proofs.Coding.{AreSmall, OneEach, get_below, holds}
use Rattle.net_encode.proofs.Seated.{are_small, group_room, one_each}

-- ---- all codes of small groups

abbrev all_below : ℕ → (ℕ → Bool) → Bool
all_below zero f = true
all_below (suc n) f = all_below n f && f n

both_true : (a b : Bool) → (a && b) ≡ true → (a ≡ true) × (b ≡ true)
both_true true true e = (refl, refl)
both_true true false e = absurd (cc)
both_true false b e = absurd (cc)

below_all : (n : ℕ) (f : ℕ → Bool) → all_below n f ≡ true → (k : ℕ) → k < n → f k ≡ true
below_all zero f e k h = absurd (omega arith)
below_all (suc n) f e k h =
    let both = both_true (all_below n f) (f n) e in
    elim (cases_lt k n) [
      | inl low ↦ below_all n f both.0 k low
      | inr high ↦ let same : k ≡ n = omega (arith, h, high) in ap f same ∙ both.1
    ]

-- the needed bits of the code are those of x
abbrev are_held : ℕ → ℕ → ℕ → ℕ → Bool
are_held last code x zero = true
are_held last code x (suc t) =
    are_held last code x t && cond (is_needed last code t) (agrees (bit t code) (bit t x)) true

abbrev same : Bool → Bool → Bool
same true b = b
same false true = false
same false false = true

same_is : (a b : Bool) → same a b ≡ true → a ≡ b
same_is true true e = refl
same_is true false e = absurd (cc)
same_is false true e = absurd (cc)
same_is false false e = refl

abbrev are_apart : ℕ → Bool
are_apart last =
    all_below (suc last)
    (λ code. all_below (suc last) (λ x. same (are_held last code x (width last)) (nat_eq code x)))

all_apart : all_below 8 are_apart ≡ true
all_apart = refl

held_is : (last code x : ℕ) → last ≤ 7 → code ≤ last → x ≤ last → are_held last code x (width last) ≡ nat_eq code x
held_is last code x few low low' =
    let one = below_all 8 are_apart all_apart last (omega (arith, few)) in
    let two = below_all (suc last)
    (λ code. all_below (suc last) (λ x. same (are_held last code x (width last)) (nat_eq code x))) one code
    (omega (arith, low)) in
    same_is (are_held last code x (width last)) (nat_eq code x)
    (below_all (suc last) (λ x. same (are_held last code x (width last)) (nat_eq code x)) two x (omega (arith, low')))

-- ---- literals

all_appended : (r : ℕ → Bool) (xs ys : List Literal) → all_hold r (xs ++ ys) ≡ (all_hold r xs && all_hold r ys)
all_appended r [] ys = refl
all_appended r (x ∷ xs) ys =
    ap (λ b. agrees x.value (r x.reg) && b) (all_appended r xs ys)
    ∙ regrouped (agrees x.value (r x.reg)) (all_hold r xs) (all_hold r ys)
  where
    regrouped : (a b c : Bool) → (a && (b && c)) ≡ ((a && b) && c)
    regrouped true b c = refl
    regrouped false b c = refl

needed_holds : (r : ℕ → Bool) (first last code x t : ℕ) → r (first + t) ≡ bit t x
    → all_hold r (needed_literal first last code t)
    ≡ cond (is_needed last code t) (agrees (bit t code) (bit t x)) true
needed_holds r first last code x t holds = by_test (is_needed last code t)
  where
    with_true : (b : Bool) → (b && true) ≡ b
    with_true true = refl
    with_true false = refl

    by_test : (b : Bool)
        → all_hold r (cond b ((record { reg = first + t; value = bit t code }) ∷ []) [])
        ≡ cond b (agrees (bit t code) (bit t x)) true
    by_test true = with_true (agrees (bit t code) (r (first + t))) ∙ ap (agrees (bit t code)) holds
    by_test false = refl

literals_hold : (r : ℕ → Bool) (first last code x count : ℕ) → ((t : ℕ) → t < count → r (first + t) ≡ bit t x)
    → all_hold r (telling_literals first last code count) ≡ are_held last code x count
literals_hold r first last code x zero holds = refl
literals_hold r first last code x (suc t) holds =
    all_appended r (telling_literals first last code t) (needed_literal first last code t)
    ∙ ap (λ b. b && all_hold r (needed_literal first last code t))
    (literals_hold r first last code x t (λ k h. holds k (omega (arith, h))))
    ∙ ap (λ b. are_held last code x t && b) (needed_holds r first last code x t (holds t (omega arith)))

-- registers that hold the code of the member that stands tell the member of this seat
seat_tells : (groups : List (List ℕ)) (p : ℕ) (seat : Seat) (s r : ℕ → Bool) → AreSmall groups → OneEach s groups
    → ((i : ℕ) → i < code_registers groups → r i ≡ get_or (code_bits s groups) i false) → IsSeat groups p seat
    → all_hold r (telling_literals seat.first seat.last seat.code seat.count) ≡ s p
seat_tells groups p seat s r small each bits of =
    let g = of.group in
    let h = holds s r groups 0 each (λ i l. let e : 0 + i ≡ i = omega arith in ap r e ∙ bits i l) of.number of.position p
    g of.at of.there in
    let first = of.first in
    let few = small.small of.number g of.at in
    let low = get_below g of.position p of.there in
    rw (of.last, of.code, of.count) (
    literals_hold r seat.first (length g) (1 + of.position) h.code (width (length g)) (λ t l.
    let e : seat.first + t ≡ 0 + code_registers (take of.number groups) + t = omega (arith, first) in
    ap r e ∙ h.bits t l)
    ∙ held_is (length g) (1 + of.position) h.code few (omega (arith, low)) h.low
    ∙ sym h.own
    )

-- a code tells the place that it is of
pub place_told : (places : ℕ) (plan : CodePlan) (s r : ℕ → Bool) → IsPlan places plan → Obeys places plan s
    → ((i : ℕ) → i < code_registers plan.groups → r i ≡ get_or (code_bits s plan.groups) i false)
    → (p : ℕ) (code : Code) → p < places → IsTelling plan.groups (leader_of plan p) code → tells r code ≡ s p
place_told places plan s r ok obeys bits p code within telling =
    ap (tells r) telling.is ∙ seat_of telling.seat telling.of
  where
    grouped : (seat : Option Seat) → IsSeatOf plan.groups (leader_of plan p) seat → IsIn plan.groups (leader_of plan p)
        → tells r (telling_at seat) ≡ s p
    grouped None of is = absurd (of is)
    grouped (Some seat) of is =
        seat_tells plan.groups (leader_of plan p) seat s r (are_small places plan ok) (one_each places plan s ok obeys)
        bits of
        ∙ sym (obeys.twins p within)

    alone : (seat : Option Seat) → IsSeatOf plan.groups (leader_of plan p) seat
        → (IsIn plan.groups (leader_of plan p) → ⊥) → tells r (telling_at seat) ≡ false
    alone None of none = refl
    alone (Some seat) of none = absurd (none (record {
      group = of.group;
      number = of.number;
      at = of.at;
      position = of.position;
      there = of.there;
    }))

    seat_of : (seat : Option Seat) → IsSeatOf plan.groups (leader_of plan p) seat → tells r (telling_at seat) ≡ s p
    seat_of seat of = elim (ok.each p within) [
      | inl never ↦
          let own = ok.never p never in
          alone seat of (λ is. own.1 (subst (IsIn plan.groups) own.0 is)) ∙ sym (obeys.never p within never)
      | inr is ↦ grouped seat of is
    ]

-- ---- codes have few literals

each_appended : (P : Literal → Type 0) (xs ys : List Literal) → ((n : ℕ) (l : Literal) → slice_get xs n ≡ Some l → P l)
    → ((n : ℕ) (l : Literal) → slice_get ys n ≡ Some l → P l) → (n : ℕ) (l : Literal)
    → slice_get (xs ++ ys) n ≡ Some l → P l
each_appended P [] ys first second n l at = second n l at
each_appended P (x ∷ xs) ys first second zero l at = first zero l at
each_appended P (x ∷ xs) ys first second (suc n) l at =
    each_appended P xs ys (λ k m e. first (suc k) m e) second n l at

needed_below : (first last code t total : ℕ) → first + t < total → (n : ℕ) (l : Literal)
    → slice_get (needed_literal first last code t) n ≡ Some l → l.reg < total
needed_below first last code t total low n l at = by_test (is_needed last code t) n at
  where
    by_test : (b : Bool) (n : ℕ) → slice_get (cond b ((record { reg = first + t; value = bit t code }) ∷ []) []) n ≡ Some l
        → l.reg < total
    by_test true zero at =
        let e = ap (λ (l : Literal). l.reg) (same_Some (record { reg = first + t; value = bit t code }) l at) in
        omega (arith, e, low)
    by_test true (suc n) at = absurd (cc)
    by_test false n at = absurd (cc)

telling_below : (first last code total count : ℕ) → first + count ≤ total → (n : ℕ) (l : Literal)
    → slice_get (telling_literals first last code count) n ≡ Some l → l.reg < total
telling_below first last code total zero room n l at = absurd (cc)
telling_below first last code total (suc t) room n l at =
    each_appended (λ l. l.reg < total) (telling_literals first last code t) (needed_literal first last code t)
    (telling_below first last code total t (omega (arith, room)))
    (needed_below first last code t total (omega (arith, room))) n l at

telling_short : (first last code count : ℕ) → length (telling_literals first last code count) ≤ count
telling_short first last code zero = omega arith
telling_short first last code (suc t) =
    let rest = telling_short first last code t in
    let one = by_test (is_needed last code t) in
    let both = length-append (telling_literals first last code t) (needed_literal first last code t) in
    omega (arith, rest, one, both)
  where
    by_test : (b : Bool) → length {A = Literal} (cond b ((record { reg = first + t; value = bit t code }) ∷ []) []) ≤ 1
    by_test true = omega arith
    by_test false = omega arith

few_at : (groups : List (List ℕ)) (p total : ℕ) (seat : Option Seat) → code_registers groups ≤ total
    → IsSeatOf groups p seat → IsFewCode total (telling_at seat)
few_at groups p total None room of = tt
few_at groups p total (Some seat) room of =
    let inside = group_room groups of.number of.group of.at in
    let first = of.first in
    let count = of.count in
    let wide = width_few (length of.group) in
    let short = telling_short seat.first seat.last seat.code seat.count in
    record {
      few = omega (arith, short, count, wide);
      below = telling_below seat.first seat.last seat.code total seat.count (omega (arith, inside, first, count, room));
    }

pub codes_few : (plan : CodePlan) (count shared : ℕ) (codes : List Code) → AreTelling plan count codes
    → shared ≡ code_registers plan.groups → AreFewCodes shared codes
codes_few plan count shared codes telling is = record {
  each = λ n c at.
      let t = telling.each n c at in
      subst (IsFewCode shared) (sym t.is)
      (few_at plan.groups (leader_of plan n) shared t.seat (omega (arith, is)) t.of);
}

-- ---- codes one by one

pub none_telling : (plan : CodePlan) → AreTelling plan 0 []
none_telling plan = record { long = refl; each = λ p code at. absurd (cc) }

pub telling_pushed : (plan : CodePlan) (n : ℕ) (codes : List Code) (code : Code) → AreTelling plan n codes
    → IsTelling plan.groups (leader_of plan n) code → AreTelling plan (n + 1) (codes ++ code ∷ [])
telling_pushed plan n codes code before own = record {
  long = let long = before.long in omega (arith, long, length_pushed codes code);
  each = λ p c at. elim (get_pushed codes code p c at) [
    | inl old ↦ before.each p c old
    | inr (last, is) ↦
        subst (λ k. IsTelling plan.groups (leader_of plan k) c) (sym (last ∙ before.long))
        (subst (IsTelling plan.groups (leader_of plan n)) (sym is) own)
  ];
}
