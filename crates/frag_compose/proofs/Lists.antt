-- Registers that are made and bound one after another.
use Rattle.std.proofs.Common.{◌≡◌, ℕ, zero, suc, ◌+◌, ◌<◌, ◌≤◌, List, [], ◌∷◌, ◌++◌}
use Rattle.std.proofs.Common.{length, get_or, take, refl, sym, ap, ◌∙◌, arith}
use Rattle.std.specs.Prelude.{slice_set, replicate}
use Rattle.net_core.specs.declared.gate.Wire.{Wire}
use Rattle.net_core.specs.Circuits.{Circuit}
use Rattle.net_core.specs.Building.{with_data}
use Rattle.frag_compose.specs.inner.Gains.{with_registers}

pub bound_at : {X : Type 0} (ws : List X) (p k : ℕ) (d z : X) → p < length ws
    → slice_set (take p ws ++ replicate (suc k) z) p (get_or ws p d) ≡ take (suc p) ws ++ replicate k z
bound_at [] p k d z h = absurd (omega arith)
bound_at (w ∷ ws) zero k d z h = refl
bound_at (w ∷ ws) (suc p) k d z h = ap (λ xs. w ∷ xs) (bound_at ws p k d z (omega arith))

pub bound_more : (c b new : Circuit) (ws : List Wire) (p n k : ℕ) (d z : Wire) → p < n → n ≤ length ws → p + k ≡ n
    → b ≡ with_registers c (take p ws ++ replicate k z) → new ≡ with_data b p (get_or ws p d)
    → (j : ℕ) × (p + 1 + j ≡ n) × (new ≡ with_registers c (take (p + 1) ws ++ replicate j z))
bound_more c b new ws p n zero d z h l e s m = absurd (omega arith)
bound_more c b new ws p n (suc j) d z h l e s m =
    let q : p + 1 ≡ suc p = omega arith in (
      j,
      omega arith,
      m ∙ ap (λ x. with_data x p (get_or ws p d)) s
          ∙ ap (λ rs. with_registers c rs) (bound_at ws p j d z (omega arith))
          ∙ ap (λ i. with_registers c (take i ws ++ replicate j z)) (sym q),
    )
