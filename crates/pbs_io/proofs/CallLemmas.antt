-- Calls that are to fail.
use Rattle.std.proofs.Common.{◌≡◌, ◌≤◌, ℕ, true, false, List, [], ◌∷◌, refl, arith}
use Rattle.std.proofs.lemmas.Bool.Decides.{nat_tests}
use Rattle.pbs_io.specs.Memory.{is_calm, is_to_fail}

pub calm_later : (fails : List ℕ) (now later : ℕ) → now ≤ later → is_calm fails now ≡ true → is_calm fails later ≡ true
calm_later [] now later le calm = refl
calm_later (k ∷ fails) now later le calm = let rest = calm_later fails now later le in grind (arith, nat_tests, rest)

pub calm_passes : (fails : List ℕ) (call : ℕ) → is_calm fails call ≡ true → is_to_fail fails call ≡ false
calm_passes [] call calm = refl
calm_passes (k ∷ fails) call calm = let rest = calm_passes fails call in grind (arith, nat_tests, rest)
