-- Which gate is the first that can be taken, and gates whose pins name earlier ones.
use Rattle.std.proofs.Common.{◌≡◌, ℕ, zero, suc, ◌+◌, ◌<◌, Bool, true, false, cond, List, []}
use Rattle.std.proofs.Common.{◌∷◌, length, Some, None, refl, sym, ap, ◌∙◌, subst, arith}
use Rattle.std.specs.Prelude.{slice_get}
use Rattle.std.proofs.lemmas.Bool.{and_from, and_parts}
use Rattle.std.proofs.lemmas.Option.{same_Some}
use Rattle.net_core.specs.declared.gate.Wire.{Wire}
use Rattle.net_core.specs.declared.gate as netlist
use Rattle.net_core.specs.declared.gate.Wire.TheVariants.{Gate}
use Rattle.vlog_text.specs.Orders.{is_settled, all_settled, can_be_taken, first_from}

-- each pin that is a gate names an earlier one
pub record AreEarlier (gates : List netlist.Gate.Gate) : Type 0 where
  pub each : (n : ℕ) (g : netlist.Gate.Gate) (i m : ℕ) → slice_get gates n ≡ Some g
      → slice_get g.pins i ≡ Some (Gate m) → m < n

pub some_at : {X : Type 0} (xs : List X) (n : ℕ) → n < length xs → (x : X) × (slice_get xs n ≡ Some x)
some_at [] n h = absurd (omega arith)
some_at (x ∷ xs) zero h = (x, refl)
some_at (x ∷ xs) (suc n) h = some_at xs n (omega arith)

pub each_settled : (taken : ℕ → Bool) (pins : List Wire) (i : ℕ) (w : Wire) → all_settled taken pins ≡ true
    → slice_get pins i ≡ Some w → is_settled taken w ≡ true
each_settled taken [] i w h e = cc
each_settled taken (x ∷ xs) zero w h e =
    let s : x ≡ w = same_Some x w e in subst (λ y. is_settled taken y ≡ true) s (and_parts (is_settled taken x) _ h).0
each_settled taken (x ∷ xs) (suc i) w h e = each_settled taken xs i w (and_parts (is_settled taken x) _ h).1 e

pub settled_all : (taken : ℕ → Bool) (pins : List Wire)
    → ((i : ℕ) (w : Wire) → slice_get pins i ≡ Some w → is_settled taken w ≡ true) → all_settled taken pins ≡ true
settled_all taken [] h = refl
settled_all taken (x ∷ xs) h =
    and_from (is_settled taken x) _ (h zero x refl) (settled_all taken xs (λ i w e. h (suc i) w e))

pub none_from : (taken : ℕ → Bool) (n : ℕ) (gates : List netlist.Gate.Gate)
    → ((k : ℕ) (g : netlist.Gate.Gate) → slice_get gates k ≡ Some g → can_be_taken taken (n + k) g.pins ≡ false)
    → first_from taken n gates ≡ None
none_from taken n [] h = refl
none_from taken n (g ∷ gs) h =
    let here : can_be_taken taken n g.pins ≡ false
    = subst (λ m. can_be_taken taken m g.pins ≡ false) (omega arith) (h zero g refl) in
    let rest : first_from taken (suc n) gs ≡ None
    = none_from taken (suc n) gs
    (λ k x e. subst (λ m. can_be_taken taken m x.pins ≡ false) (omega arith) (h (suc k) x e)) in
    ap (λ b. cond b (Some n) (first_from taken (suc n) gs)) here ∙ rest

pub some_from : (taken : ℕ → Bool) (n : ℕ) (gates : List netlist.Gate.Gate) (k : ℕ) (g : netlist.Gate.Gate)
    → slice_get gates k ≡ Some g → can_be_taken taken (n + k) g.pins ≡ true
    → ((j : ℕ) (x : netlist.Gate.Gate) → j < k → slice_get gates j ≡ Some x → can_be_taken taken (n + j) x.pins ≡ false)
    → first_from taken n gates ≡ Some (n + k)
some_from taken n [] k g e h before = cc
some_from taken n (y ∷ ys) zero g e h before =
    let same : y ≡ g = same_Some y g e in
    let here : can_be_taken taken n y.pins ≡ true
    = subst (λ m. can_be_taken taken m y.pins ≡ true) (omega arith)
    (subst (λ (x : netlist.Gate.Gate). can_be_taken taken (n + zero) x.pins ≡ true) (sym same) h) in
    ap (λ b. cond b (Some n) (first_from taken (suc n) ys)) here ∙ ap (λ m. Some m) (omega arith)
some_from taken n (y ∷ ys) (suc k) g e h before =
    let here : can_be_taken taken n y.pins ≡ false
    = subst (λ m. can_be_taken taken m y.pins ≡ false) (omega arith) (before zero y (omega arith) refl) in
    let rest = some_from taken (suc n) ys k g e (subst (λ m. can_be_taken taken m g.pins ≡ true) (omega arith) h)
    (λ j x l f. subst (λ m. can_be_taken taken m x.pins ≡ false) (omega arith) (before (suc j) x (omega arith) f)) in
    ap (λ b. cond b (Some n) (first_from taken (suc n) ys)) here ∙ rest ∙ ap (λ m. Some m) (omega arith)
