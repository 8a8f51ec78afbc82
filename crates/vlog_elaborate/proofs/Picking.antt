-- Items of a list that are picked one by one.
use Rattle.std.proofs.Common.{◌≡◌, ℕ, zero, suc, ◌+◌, ◌<◌, Bool, true, false, cond, List, [], ◌∷◌, ◌++◌, length, map}
use Rattle.std.proofs.Common.{filter, take, get_or, refl, sym, ap, ◌∙◌, add-one, arith}

module _ {X Y : Type 0} (p : X → Bool) (g : X → Y) where
  step : (xs : List X) (i : ℕ) (x : X) → i < length xs → x ≡ get_or xs i x
      → map g (filter p (take (suc i) xs)) ≡ map g (filter p (take i xs)) ++ cond (p x) (g x ∷ []) []
  step [] i x within at = absurd (omega arith)
  step (y ∷ ys) zero x within at = ap (λ z. map g (filter p (z ∷ []))) (sym at) ∙ go (p x)
    where
      go : (b : Bool) → map g (cond b (x ∷ []) []) ≡ cond b (g x ∷ []) []
      go true = refl
      go false = refl
  step (y ∷ ys) (suc i) x within at = go (p y) (step ys i x (omega arith) at)
    where
      go : (b : Bool) → map g (filter p (take (suc i) ys)) ≡ map g (filter p (take i ys)) ++ cond (p x) (g x ∷ []) []
          → map g (cond b (y ∷ filter p (take (suc i) ys)) (filter p (take (suc i) ys)))
          ≡ map g (cond b (y ∷ filter p (take i ys)) (filter p (take i ys))) ++ cond (p x) (g x ∷ []) []
      go true e = ap (λ zs. g y ∷ zs) e
      go false e = e

  pub picked_more : (xs : List X) (i : ℕ) (x : X) (out new : List Y) → i < length xs → x ≡ get_or xs i x
      → out ≡ map g (filter p (take i xs)) → new ≡ out ++ cond (p x) (g x ∷ []) []
      → new ≡ map g (filter p (take (i + 1) xs))
  picked_more xs i x out new within at e n =
      n ∙ ap (λ ys. ys ++ cond (p x) (g x ∷ []) []) e ∙ sym (step xs i x within at)
      ∙ ap (λ k. map g (filter p (take k xs))) (sym (add-one i))

  pub picked_all : (xs : List X) (n : ℕ) → n ≡ length xs → map g (filter p (take n xs)) ≡ map g (filter p xs)
  picked_all xs n e = ap (λ ys. map g (filter p ys)) (all xs n e)
    where
      all : (xs : List X) (n : ℕ) → n ≡ length xs → take n xs ≡ xs
      all [] zero e = refl
      all [] (suc n) e = refl
      all (x ∷ xs) zero e = absurd (omega arith)
      all (x ∷ xs) (suc n) e = ap (λ ys. x ∷ ys) (all xs n (omega arith))
