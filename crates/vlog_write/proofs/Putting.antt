-- Pieces that are written one behind the other.
use Rattle.std.proofs.Common.{◌≡◌, ℕ, zero, suc, ◌+◌, ◌<◌, List, [], ◌∷◌, ◌++◌, length, drop, get_or, Some, sym, ap}
use Rattle.std.proofs.Common.{◌∙◌, append_assoc, add-one, drop-cons, subst}
use Rattle.std.specs.Prelude.{slice_get, Result, Ok, Err, OnOk}
use Rattle.std.specs.List.{flat_map}
use Rattle.pbs_base.specs.declared.fail.Memory.{Memory}
use Rattle.vlog_text.specs.Emitted.{numbered}

-- two pieces
pub more : (old now new a b : List ℕ) → now ≡ old ++ a → new ≡ now ++ b → new ≡ old ++ (a ++ b)
more old now new a b e h = h ∙ ap (λ l. l ++ b) e ∙ append_assoc old a b

-- pieces, and what the last call says of the last one
pub then : (r : Result (Unit {0}) Memory) (old now new a b : List ℕ) → now ≡ old ++ a → OnOk r (new ≡ now ++ b)
    → OnOk r (new ≡ old ++ (a ++ b))
then (Ok x) old now new a b e h = more old now new a b e h
then (Err x) old now new a b e h = h

drop-at : {A : Type 0} (items : List A) (n : ℕ) (x : A) → Some x ≡ slice_get items n
    → drop n items ≡ x ∷ drop (suc n) items
drop-at [] n x e = absurd cc
drop-at (y ∷ ys) zero x e = let same : x ≡ y = cc in ap (λ z. z ∷ ys) (sym same)
drop-at (y ∷ ys) (suc n) x e = drop-at ys n x e

-- one item more of a list
pub item_more : {A : Type 0} (f : A → List ℕ) (items : List A) (text new : List ℕ) (n : ℕ) (x : A)
    → Some x ≡ slice_get items n → new ≡ text ++ f x
    → new ++ flat_map f (drop (n + 1) items) ≡ text ++ flat_map f (drop n items)
item_more f items text new n x e q =
    let rest : List ℕ = flat_map f (drop (suc n) items) in
    ap (λ k. new ++ flat_map f (drop k items)) (add-one n) ∙ ap (λ l. l ++ rest) q ∙ append_assoc text (f x) rest
    ∙ ap (λ l. text ++ flat_map f l) (sym (drop-at items n x e))

-- one numbered item more, of items that are these
numbered_one : {A : Type 0} (line : ℕ → A → List ℕ) (items : List A) (text new : List ℕ) (n : ℕ) (d : A)
    → n < length items → new ≡ text ++ line n (get_or items n d)
    → new ++ numbered line (n + 1) (drop (n + 1) items) ≡ text ++ numbered line n (drop n items)
numbered_one line items text new n d within q =
    let x = get_or items n d in
    let rest : List ℕ = numbered line (n + 1) (drop (suc n) items) in
    ap (λ k. new ++ numbered line (n + 1) (drop k items)) (add-one n) ∙ ap (λ l. l ++ rest) q
    ∙ append_assoc text (line n x) rest
    ∙ ap (λ l. text ++ numbered line n l) (sym (drop-cons items n d within))

pub numbered_more : {A : Type 0} (line : ℕ → A → List ℕ) (items these : List A) (text new : List ℕ) (n : ℕ) (d : A)
    → items ≡ these → n < length items → new ≡ text ++ line n (get_or items n d)
    → new ++ numbered line (n + 1) (drop (n + 1) these) ≡ text ++ numbered line n (drop n these)
numbered_more line items these text new n d same within q =
    subst (λ xs. new ++ numbered line (n + 1) (drop (n + 1) xs) ≡ text ++ numbered line n (drop n xs)) same
    (numbered_one line items text new n d within q)
