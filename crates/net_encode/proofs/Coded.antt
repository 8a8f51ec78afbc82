-- One group's registers more, and one literal more.
use Rattle.std.proofs.Common.{◌≡◌, ℕ, zero, suc, ◌+◌, ◌<◌, List, [], ◌∷◌, ◌++◌, length, take}
use Rattle.std.proofs.Common.{get_or, refl, sym, ap, ◌∙◌, arith}
use Rattle.std.proofs.lemmas.List.{take_more}
use Rattle.pbs_base.specs.Entries.{bit}
use Rattle.net_encode.specs.Codes.{width, code_registers, low_bits, literals_from}

registers_pushed : (gs : List (List ℕ)) (g : List ℕ)
    → code_registers (gs ++ g ∷ []) ≡ code_registers gs + width (length g)
registers_pushed [] g = omega arith
registers_pushed (h ∷ gs) g = let rest = registers_pushed gs g in omega (arith, rest)

pub registers_more : (gs : List (List ℕ)) (n : ℕ) (g : List ℕ) → n < length gs → g ≡ get_or gs n g
    → code_registers (take (n + 1) gs) ≡ code_registers (take n gs) + width (length g)
registers_more gs n g h is =
    ap code_registers (take_more gs n g h) ∙ ap (λ x. code_registers (take n gs ++ x ∷ [])) (sym is)
    ∙ registers_pushed (take n gs) g

pub literals_more : (first t code : ℕ) → t < 3
    → literals_from first (low_bits t code) ++ (record { reg = first + t; value = bit t code }) ∷ []
    ≡ literals_from first (low_bits (t + 1) code)
literals_more first zero code h =
    let e : first + 0 ≡ first = omega arith in
    rw e refl
literals_more first (suc zero) code h =
    let e : first + 1 ≡ suc first = omega arith in
    rw e refl
literals_more first (suc (suc zero)) code h =
    let e : first + 2 ≡ suc (suc first) = omega arith in
    rw e refl
literals_more first (suc (suc (suc t))) code h = absurd (omega arith)
