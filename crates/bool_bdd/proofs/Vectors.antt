-- A vector with one input set, and the later ones as they are.
use Rattle.std.proofs.Common.{◌≡◌, ℕ, ◌+◌, ◌-◌, ◌*◌, ◌/◌, ◌%◌, ◌^◌, ◌<◌, ◌≤◌, Bool, true, false, nat_eq, refl, sym, ap, ◌∙◌}
use Rattle.std.proofs.Common.{arith, lit<, subst}
use Rattle.std.proofs.Math.Nat.{div-mul-le_self, mod-lt, mod-add-div, mul-le-mul_right}
use Rattle.std.proofs.lemmas.Nat.{pow_pos}
use Rattle.std.proofs.lemmas.Bool.{eqb-true}
use Rattle.std.proofs.lemmas.Bool.Decides.{nat_tests}
use Rattle.std.proofs.lemmas.Nat.{shl-shr, shr-shr, shr_high, mod-mul-add, le-div}
use Rattle.std.proofs.lemmas.Nat.Bits.{and_pow}
use Rattle.std.specs.Prelude.{bit_or, bit_and}
use Rattle.std.specs.Int.Bits.{or_add_and}
use Rattle.pbs_base.specs.Entries.{bit}

abbrev digit : Bool → ℕ
digit true = 1
digit false = 0

abbrev upper : ℕ → Bool → ℕ → ℕ
upper k b v = v / 2 ^ (k + 1) * 2 ^ 1 + digit b

abbrev pub with_bit : ℕ → Bool → ℕ → ℕ
with_bit k b v = upper k b v * 2 ^ k

digit_small : (b : Bool) → digit b < 2 ^ 1
digit_small true = lit< tt
digit_small false = lit< tt

digit_tells : (b : Bool) → nat_eq (digit b) 1 ≡ b
digit_tells true = refl
digit_tells false = refl

pub bit_here : (k : ℕ) (b : Bool) (v : ℕ) → bit k (with_bit k b v) ≡ b
bit_here k b v =
    let whole : with_bit k b v / 2 ^ k ≡ upper k b v = shl-shr (upper k b v) k in
    let low : upper k b v % 2 ^ 1 ≡ digit b = mod-mul-add (v / 2 ^ (k + 1)) (2 ^ 1) (digit b) (digit_small b) in
    ap (λ x. nat_eq (x % 2) 1) whole ∙ (ap (λ x. nat_eq x 1) low ∙ digit_tells b)

shifted : (k j : ℕ) (b : Bool) (v : ℕ) → with_bit k b v / 2 ^ (k + (1 + j)) ≡ v / 2 ^ (k + 1 + j)
shifted k j b v =
    sym (shr-shr (with_bit k b v) k (1 + j))
    ∙ (ap (λ x. x / 2 ^ (1 + j)) (shl-shr (upper k b v) k)
    ∙ (sym (shr-shr (upper k b v) 1 j)
    ∙ (ap (λ x. x / 2 ^ j) (shr_high (v / 2 ^ (k + 1)) 1 (digit b) (digit_small b))
    ∙ shr-shr v (k + 1) j)))

pub bits_after : (k : ℕ) (b : Bool) (v m : ℕ) → k < m → bit m (with_bit k b v) ≡ bit m v
bits_after k b v m h =
    let j = m - (k + 1) in
    let one : k + (1 + j) ≡ m = omega arith in
    let two : k + 1 + j ≡ m = omega arith in
    ap (λ x. nat_eq (x % 2) 1) (sym (ap (λ x. with_bit k b v / 2 ^ x) one)
    ∙ (shifted k j b v ∙ ap (λ x. v / 2 ^ x) two))

-- ---- sizes

digit_of : (b : Bool) (r : ℕ) → r < 2 → nat_eq r 1 ≡ b → r ≡ digit b
digit_of true r l e = eqb-true r 1 e
digit_of false r l e = grind (arith, nat_tests)

upper_is : (k : ℕ) (b : Bool) (w : ℕ) → bit k w ≡ b → upper k b w ≡ w / 2 ^ k
upper_is k b w e =
    let half : w / 2 ^ (k + 1) ≡ w / 2 ^ k / 2 ^ 1 = sym (shr-shr w k 1) in
    let r : w / 2 ^ k % 2 ≡ digit b = digit_of b (w / 2 ^ k % 2) (mod-lt (w / 2 ^ k) (lit< tt)) e in
    let whole = mod-add-div (w / 2 ^ k) 2 in
    ap (λ x. x * 2 ^ 1 + digit b) half ∙ omega (arith, r, whole)

-- with the input as it is, and the earlier ones 0, it is no larger
pub lowered : (k : ℕ) (b : Bool) (w : ℕ) → bit k w ≡ b → with_bit k b w ≤ w
lowered k b w e =
    subst (λ x. x * 2 ^ k ≤ w) (sym (upper_is k b w e)) (div-mul-le_self w (2 ^ k))

pub with_bit_grows : (k : ℕ) (b : Bool) (v w : ℕ) → v ≤ w → with_bit k b v ≤ with_bit k b w
with_bit_grows k b v w h =
    let p = 2 ^ (k + 1) in
    let low : v / p * p ≤ v = div-mul-le_self v p in
    let few : v / p * p ≤ w = omega arith in
    let upper_less : v / p ≤ w / p = le-div (v / p) w p (pow_pos (k + 1)) few in
    let sum : upper k b v ≤ upper k b w = omega arith in
    mul-le-mul_right (2 ^ k) sum

pub low_with_bit : (k v : ℕ) → with_bit k false v ≤ v
low_with_bit k v =
    let p = 2 ^ k in
    let two : v / 2 ^ (k + 1) ≡ v / p / 2 ^ 1 = sym (shr-shr v k 1) in
    let half : v / p / 2 ^ 1 * 2 ^ 1 ≤ v / p = div-mul-le_self (v / p) (2 ^ 1) in
    let sum : upper k false v ≤ v / p = omega arith in
    let more = mul-le-mul_right p sum in
    let whole = div-mul-le_self v p in
    omega arith

-- to set an input that isn't set
pub set_bit : (k v : ℕ) → v ≡ with_bit k false v → bit_or v (2 ^ k) ≡ with_bit k true v
set_bit k v e =
    let unset : bit k v ≡ false = ap (λ x. bit k x) e ∙ bit_here k false v in
    let zero_digit : v / 2 ^ k % 2 ≡ 0 = digit_of false (v / 2 ^ k % 2) (mod-lt (v / 2 ^ k) (lit< tt)) unset in
    let none : bit_and v (2 ^ k) ≡ 0 =
    and_pow v k ∙ (ap (λ x. x * 2 ^ k) zero_digit ∙ (let z : 0 * 2 ^ k ≡ 0 = omega arith in z)) in
    let sum = or_add_and v (2 ^ k) in
    let q = v / 2 ^ (k + 1) * 2 ^ 1 in
    let apart : (q + 1) * 2 ^ k ≡ (q + 0) * 2 ^ k + 2 ^ k = omega arith in
    omega arith
