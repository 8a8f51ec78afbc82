-- The first gate that the order leaves out.
use Rattle.std.proofs.Common.{◌≡◌, ℕ, zero, suc, ◌+◌, ◌<◌, ◌≤◌, true, false, cond, List, [], ◌∷◌}
use Rattle.std.proofs.Common.{length, drop, refl, ap, ◌∙◌, arith}
use Rattle.vlog_text.specs.declared.raw.RawGate.{RawGate}
use Rattle.vlog_text.specs.Orders.{is_among}
use Rattle.vlog_text.specs.Refusing.{left_out, item_target}

pub left_out_is : (order : List ℕ) (n m : ℕ) (gates : List RawGate)
    → ((k : ℕ) → k < m → is_among order (n + k) ≡ true) → (m < length gates → is_among order (n + m) ≡ false)
    → m ≤ length gates → left_out order n gates ≡ item_target (drop m gates)
left_out_is order n zero [] before at few = refl
left_out_is order n (suc m) [] before at few = absurd (omega arith)
left_out_is order n zero (g ∷ gs) before at few =
    ap (λ b. cond b (left_out order (suc n) gs) (item_target (g ∷ gs)))
    (ap (λ k. is_among order k) (omega arith) ∙ at (omega arith))
left_out_is order n (suc m) (g ∷ gs) before at few =
    ap (λ b. cond b (left_out order (suc n) gs) (item_target (g ∷ gs)))
    (ap (λ k. is_among order k) (omega arith) ∙ before 0 (omega arith))
    ∙ left_out_is order (suc n) m gs
    (λ k l. ap (λ j. is_among order j) (omega arith) ∙ before (suc k) (omega arith))
    (λ l. ap (λ j. is_among order j) (omega arith) ∙ at (omega arith)) (omega arith)
