-- The number that has these digits.
use Rattle.std.proofs.Common.{◌≡◌, ◌∙◌, ◌-◌, ◌<◌, ◌≤◌, ℕ, zero, suc, true, false, List, Some, None, refl, sym}
use Rattle.std.proofs.Common.{ap, subst, arith}
use Rattle.std.specs.Prelude.{bytes_eq, decimal, if◌then◌else◌}
use Rattle.pbs_cli.specs.Words.{number_up_to}

number_zero : (digits : List ℕ) → number_up_to zero digits ≡ None
unfolding number_up_to
number_zero digits = refl

number_step : (n : ℕ) (digits : List ℕ) → number_up_to (suc n) digits
    ≡ (if bytes_eq digits (decimal (suc n)) then Some (suc n) else number_up_to n digits)
unfolding number_up_to
number_step n digits = refl

pub number_found : (most n : ℕ) (digits : List ℕ) → number_up_to most digits ≡ number_up_to n digits → 0 < n
    → bytes_eq digits (decimal n) ≡ true → Some n ≡ number_up_to most digits
number_found most zero digits so_far some is = absurd (omega arith)
number_found most (suc n) digits so_far some is =
    sym (so_far ∙ (number_step n digits ∙ ap (λ b. if b then Some (suc n) else number_up_to n digits) is))

pub number_passed : (most n : ℕ) (digits : List ℕ) → number_up_to most digits ≡ number_up_to n digits → 0 < n
    → bytes_eq digits (decimal n) ≡ false → number_up_to most digits ≡ number_up_to (n - 1) digits
number_passed most zero digits so_far some is = absurd (omega arith)
number_passed most (suc n) digits so_far some is =
    let lower : n ≡ suc n - 1 = omega arith in
    subst (λ m. number_up_to most digits ≡ number_up_to m digits) lower
    (so_far ∙ (number_step n digits ∙ ap (λ b. if b then Some (suc n) else number_up_to n digits) is))

pub number_absent : (most n : ℕ) (digits : List ℕ) → number_up_to most digits ≡ number_up_to n digits → n ≤ 0
    → None ≡ number_up_to most digits
number_absent most zero digits so_far none = sym (so_far ∙ number_zero digits)
number_absent most (suc n) digits so_far none = absurd (omega arith)
