-- The number that digits stand for.
use Rattle.std.proofs.Common.{◌≡◌, ℕ, suc, ◌+◌, ◌-◌, ◌*◌, ◌<◌, ◌≤◌, List, length, get_or, take, drop, refl, arith}
use Rattle.std.proofs.Common.{add-one, lit<}
use Rattle.std.specs.Prelude.{◌^◌, true}
use Rattle.std.specs.List.{prefix_len}
use Rattle.std.proofs.Math.Nat.{pow-suc, pow-le-pow_right}
use Rattle.std.proofs.Math.Seq.{drop-cons}
use Rattle.std.proofs.lemmas.Bool.Decides.{nat_tests}
use Rattle.std.proofs.lemmas.List.{get_or-take}
use Rattle.std.proofs.lemmas.List.Sums.{prefix_len_passes}
use Rattle.std.proofs.lemmas.List.Folds.{length-prefix_len}
use Rattle.pbs_text.specs.Lexing.{decimal_from, is_digit}

pub decimal-step : (v i : ℕ) (ds : List ℕ) → i < length ds → decimal_from (v * 10 + (get_or ds i 0 - 48))
    (drop (i + 1) ds) ≡ decimal_from v (drop i ds)
decimal-step v i ds h = rw (add-one, drop-cons ds i 0) refl

pub decimal_grows : (v i d : ℕ) → v < 10 ^ i → d ≤ 9 → v * 10 + d < 10 ^ (i + 1)
decimal_grows v i d h e = let p : 10 ^ suc i ≡ 10 ^ i * 10 = pow-suc 10 i in rw add-one (omega (arith, p))

pub decimal_below : (v i d : ℕ) → v < 10 ^ i → i < 9 → d ≤ 9 → v * 10 + d < 1000000000
decimal_below v i d h k e =
    let p : 10 ^ suc i ≡ 10 ^ i * 10 = pow-suc 10 i in
    let fits : suc i ≤ 9 = omega arith in
    let q : 10 ^ suc i ≤ 10 ^ 9 = pow-le-pow_right (lit< tt) fits in
    omega (arith, p, q)

pub digit_in : (b : ℕ) → is_digit b ≡ true → b ≤ 57
digit_in b e = grind (arith, nat_tests)

pub digits_in : (bs : List ℕ) (i : ℕ) → i < length (take (prefix_len is_digit bs) bs)
    → get_or (take (prefix_len is_digit bs) bs) i 0 ≤ 57
digits_in bs i h =
    let n : length (take (prefix_len is_digit bs) bs) ≡ prefix_len is_digit bs = length-prefix_len is_digit bs in
    let k : i < prefix_len is_digit bs = omega (arith, n) in
    rw (get_or-take (prefix_len is_digit bs) bs i 0 k) (digit_in (get_or bs i 0) (prefix_len_passes is_digit bs i 0 k))
