-- Seats of members of groups, and the codes that they have.
use Rattle.std.proofs.Common.{◌≡◌, ℕ, zero, suc, ◌+◌, ◌<◌, ◌≤◌, ◌⊎◌, inl, inr, arith}
use Rattle.std.proofs.Common.{List, [], ◌∷◌, ◌++◌, length, map, take, get_or, Some, None, refl, sym, ap, ◌∙◌, subst}
use Rattle.std.proofs.Common.{Bool}
use Rattle.std.specs.Prelude.{Option, ◌^◌, slice_get, slice_set}
use Rattle.std.proofs.lemmas.Bool.{cases_lt}
use Rattle.std.proofs.lemmas.List.{map-append, take_more}
use Rattle.std.proofs.lemmas.Option.{get_or_from_slice_get, same_Some, slice_get_within}
use Rattle.net_core.specs.declared.codes.Code.{Code}
use Rattle.net_core.specs.declared.codes.Code.TheVariants.{Never, Bits}
use Rattle.net_core.specs.declared.codes.CodePlan.{CodePlan}
use Rattle.net_core.specs.Plans.{leader_of}
use Rattle.net_encode.specs.declared.seats.Seat.{Seat}
use Rattle.net_encode.specs.Codes.{Obeys, code_in, code_registers, literals_from, low_bits, width}
use Rattle.net_encode.specs.inner.Plans.{AreOnce, IsIn, IsPlan}
use Rattle.net_encode.specs.inner.Seats.{AreSeats, AreSeatsTo, HasRoom, HasSmallCode, IsSeat, IsSeatOf, code_at}
use Rattle.net_encode.proofs.Bits.{width_few}
use Rattle.net_encode.proofs.Coded.{registers_more}
use Rattle.net_encode.proofs.Coding.{AreSmall, OneEach, first_distinct, get_below, in_no_group, not_first, rest_once, within_at}
use Rattle.net_encode.proofs.Coding.{within_other}
use Rattle.net_encode.proofs.Decoding.{get_it}

-- an item of the changed list is the new one, or stands elsewhere and was there before
get_changed : {X : Type 0} (xs : List X) (i : ℕ) (y : X) (n : ℕ) (x : X) → slice_get (slice_set xs i y) n ≡ Some x
    → ((n ≡ i) × (x ≡ y)) ⊎ ((i ≡ n → ⊥) × (slice_get xs n ≡ Some x))
get_changed [] i y n x at = absurd (cc)
get_changed (z ∷ xs) zero y zero x at = inl (refl, sym (same_Some y x at))
get_changed (z ∷ xs) zero y (suc n) x at = inr (λ e. omega (arith, e), at)
get_changed (z ∷ xs) (suc i) y zero x at = inr (λ e. omega (arith, e), at)
get_changed (z ∷ xs) (suc i) y (suc n) x at = elim (get_changed xs i y n x at) [
  | inl (same, is) ↦ inl (ap suc same, is)
  | inr (apart, there) ↦ inr (λ e. apart (omega (arith, e)), there)
]

-- ---- seats as they are given

pub none_seated : (groups : List (List ℕ)) (seats : List (Option Seat))
    → ((p : ℕ) (seat : Option Seat) → slice_get seats p ≡ Some seat → seat ≡ None) → AreSeatsTo groups 0 0 seats
none_seated groups seats none = record {
  found = λ p seat at. let e = none p (Some seat) at in absurd (cc);
  none = λ p m j g at there member before. elim before [
    | inl low ↦ omega (arith, low)
    | inr (same, low) ↦ omega (arith, low)
  ];
}

module _ (groups : List (List ℕ)) (n i : ℕ) (g : List ℕ) (seats : List (Option Seat))
    (at : slice_get groups n ≡ Some g) where
  -- another group with the number of this one is this one
  same_member : (m j q : ℕ) (h : List ℕ) → slice_get groups m ≡ Some h → slice_get h j ≡ Some q → m ≡ n
      → slice_get g j ≡ Some q
  same_member m j q h there member same =
      let e : h ≡ g = same_Some h g (sym there ∙ (ap (slice_get groups) same ∙ at)) in
      ap (λ l. slice_get l j) (sym e) ∙ member

  pub seat_written : (p : ℕ) (seat : Seat) → slice_get g i ≡ Some p → IsSeat groups p seat
      → AreSeatsTo groups n i seats → AreSeatsTo groups n (i + 1) (slice_set seats p (Some seat))
  seat_written p seat here own before = record {
    found = λ q s found. elim (get_changed seats p (Some seat) q (Some s) found) [
      | inl (same, is) ↦
          subst (λ k. IsSeat groups k s) (sym same) (subst (IsSeat groups p) (sym (same_Some s seat is)) own)
      | inr (apart, old) ↦ before.found q s old
    ];
    none = λ q m j h found there member earlier. elim (get_changed seats p (Some seat) q None found) [
      | inl (same, is) ↦ absurd (cc)
      | inr (apart, old) ↦ elim earlier [
        | inl low ↦ before.none q m j h old there member (inl low)
        | inr (same, low) ↦ elim (cases_lt j i) [
          | inl less ↦ before.none q m j h old there member (inr (same, less))
          | inr high ↦
              let e : j ≡ i = omega (arith, low, high) in
              apart (same_Some p q
              (sym here ∙ (ap (slice_get g) (sym e) ∙ same_member m j q h there member same)))
        ]
      ]
    ];
  }

  pub group_seated : AreSeatsTo groups n (length g) seats → AreSeatsTo groups (n + 1) 0 seats
  group_seated before = record {
    found = before.found;
    none = λ q m j h found there member earlier. elim earlier [
      | inl low ↦ elim (cases_lt m n) [
        | inl less ↦ before.none q m j h found there member (inl less)
        | inr high ↦
            let same : m ≡ n = omega (arith, low, high) in
            let below = get_below g j q (same_member m j q h there member same) in
            before.none q m j h found there member (inr (same, below))
      ]
      | inr (same, low) ↦ omega (arith, low)
    ];
  }

pub all_seated : (groups : List (List ℕ)) (n : ℕ) (seats : List (Option Seat)) → length groups ≤ n
    → AreSeatsTo groups n 0 seats → AreSeats groups seats
all_seated groups n seats whole all = record { each = λ p seat at. seat_of p seat at }
  where
    seat_of : (p : ℕ) (seat : Option Seat) → slice_get seats p ≡ Some seat → IsSeatOf groups p seat
    seat_of p None at = λ within.
        let low = slice_get_within groups within.number within.group within.at in
        all.none p within.number within.position within.group at within.at within.there
        (inl (omega (arith, low, whole)))
    seat_of p (Some seat) at = all.found p seat at

-- ---- registers of groups

pub group_at : (gs : List (List ℕ)) (n : ℕ) (g : List ℕ) → n < length gs → g ≡ get_or gs n g → slice_get gs n ≡ Some g
group_at gs n g low is = get_it gs n g low ∙ ap Some (sym is)

registers_front : (gs : List (List ℕ)) (n : ℕ) → code_registers (take n gs) ≤ code_registers gs
registers_front gs zero = omega arith
registers_front [] (suc n) = omega arith
registers_front (g ∷ gs) (suc n) = let rest = registers_front gs n in omega (arith, rest)

-- the registers of a group are among those of all groups
pub group_room : (gs : List (List ℕ)) (n : ℕ) (g : List ℕ) → slice_get gs n ≡ Some g
    → code_registers (take n gs) + width (length g) ≤ code_registers gs
group_room gs n g at =
    let low = slice_get_within gs n g at in
    let more = registers_more gs n g low (sym (get_or_from_slice_get gs n g g at)) in
    let front = registers_front gs (n + 1) in
    omega (arith, more, front)

pub registers_next : (gs : List (List ℕ)) (n : ℕ) (g : List ℕ) → slice_get gs n ≡ Some g
    → code_registers (take (n + 1) gs) ≡ code_registers (take n gs) + width (length g)
registers_next gs n g at =
    registers_more gs n g (slice_get_within gs n g at) (sym (get_or_from_slice_get gs n g g at))

-- ---- what a seat says

pub seat_room : (groups : List (List ℕ)) (p : ℕ) (seat : Option Seat) → code_registers groups < 2 ^ 32
    → IsSeatOf groups p seat → HasRoom seat
seat_room groups p None few of = tt
seat_room groups p (Some seat) few of = (
  let wide = width_few (length of.group) in let count = of.count in omega (arith, wide, count),
  let room = group_room groups of.number of.group of.at in
      let first = of.first in
      let count = of.count in
      omega (arith, room, first, count, few),
)

pub seat_small : (groups : List (List ℕ)) (p : ℕ) (seat : Option Seat) → AreSmall groups → IsSeatOf groups p seat
    → HasSmallCode seat
seat_small groups p None small of = tt
seat_small groups p (Some seat) small of =
    let few = small.small of.number of.group of.at in
    let low = get_below of.group of.position p of.there in
    let code = of.code in
    omega (arith, few, low, code)

-- the code of a member
code_of_member : (first : ℕ) (groups : List (List ℕ)) (n i p : ℕ) (g : List ℕ) → AreOnce groups
    → slice_get groups n ≡ Some g → slice_get g i ≡ Some p
    → code_in first groups p
    ≡ Bits (literals_from (first + code_registers (take n groups)) (low_bits (width (length g)) (1 + i)))
code_of_member first [] n i p g once at there = absurd (cc)
code_of_member first (h ∷ gs) zero i p g once at there =
    let same : h ≡ g = same_Some h g at in
    let there' : slice_get h i ≡ Some p = ap (λ l. slice_get l i) same ∙ there in
    let w = width (length h) in
    let e : first ≡ first + 0 = omega arith in
    within_at first w 1 h p (code_in (first + w) gs p) (first_distinct h gs once) i there'
    ∙ ap (λ f. Bits (literals_from f (low_bits w (1 + i)))) e
    ∙ ap (λ (l : List ℕ). Bits (literals_from (first + 0) (low_bits (width (length l)) (1 + i)))) same
code_of_member first (h ∷ gs) (suc n) i p g once at there =
    let w = width (length h) in
    let e : first + w + code_registers (take n gs) ≡ first + (w + code_registers (take n gs)) = omega arith in
    within_other first w 1 h p (code_in (first + w) gs p) (not_first h gs once n i p g at there)
    ∙ code_of_member (first + w) gs n i p g (rest_once h gs once) at there
    ∙ ap (λ f. Bits (literals_from f (low_bits (width (length g)) (1 + i)))) e

pub seat_code_is : (groups : List (List ℕ)) (p : ℕ) (seat : Option Seat) → AreOnce groups → IsSeatOf groups p seat
    → code_at seat ≡ code_in 0 groups p
seat_code_is groups p None once of = sym (in_no_group 0 groups p of)
seat_code_is groups p (Some seat) once of =
    let e : seat.first ≡ 0 + code_registers (take of.number groups) = let first = of.first in omega (arith, first) in
    ap (λ f. Bits (literals_from f (low_bits seat.count seat.code))) e
    ∙ ap (λ k. Bits (literals_from (0 + code_registers (take of.number groups)) (low_bits k seat.code))) of.count
    ∙ ap (λ c. Bits (literals_from (0 + code_registers (take of.number groups)) (low_bits (width (length of.group)) c)))
    of.code
    ∙ sym (code_of_member 0 groups of.number of.position p of.group once of.at of.there)

-- ---- lookups

pub are_small : (places : ℕ) (plan : CodePlan) → IsPlan places plan → AreSmall plan.groups
are_small places plan ok = record { small = λ n g at. (ok.sizes n g at).1 }

pub one_each : (places : ℕ) (plan : CodePlan) (s : ℕ → Bool) → IsPlan places plan → Obeys places plan s
    → OneEach s plan.groups
one_each places plan s ok obeys = record {
  each = λ n g at. record {
    one = λ i j p q a b c d.
        let same = obeys.apart.apart n i j g p q at a b c d in
        (ok.once.once n n i j g g q at at (a ∙ ap Some same) b).1;
  };
}

-- a place's leader is a place
pub leader_below : (places : ℕ) (plan : CodePlan) (p : ℕ) → IsPlan places plan → p < places
    → leader_of plan p < places
leader_below places plan p ok low = elim (ok.each p low) [
  | inl never ↦ let own = (ok.never p never).0 in omega (arith, own, low)
  | inr seat ↦ (ok.leaders (leader_of plan p) seat).0
]

-- the seat of a place's leader
pub leader_seat : (plan : CodePlan) (seats : List (Option Seat)) (n : ℕ) (d : Option Seat)
    → IsPlan (length plan.leaders) plan → AreSeats plan.groups seats → length seats ≡ length plan.leaders
    → n < length plan.leaders → IsSeatOf plan.groups (leader_of plan n) (get_or seats (leader_of plan n) d)
leader_seat plan seats n d ok all long low =
    let below = leader_below (length plan.leaders) plan n ok low in
    let low' : leader_of plan n < length seats = omega (arith, below, long) in
    all.each (leader_of plan n) (get_or seats (leader_of plan n) d) (get_it seats (leader_of plan n) d low')

pub map_more : (f : ℕ → Code) (xs : List ℕ) (n : ℕ) → n < length xs
    → map f (take n xs) ++ f (get_or xs n 0) ∷ [] ≡ map f (take (n + 1) xs)
map_more f xs n low =
    sym (map-append f (take n xs) (get_or xs n 0 ∷ [])) ∙ ap (map f) (sym (take_more xs n 0 low))
