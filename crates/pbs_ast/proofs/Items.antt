-- Items of lists, what holds of each, and values of results.
use Rattle.std.proofs.Common.{zero, suc, List, [], ◌∷◌, ◌++◌, ◌≡◌, ◌⊎◌, inl, inr, refl, arith}
use Rattle.std.specs.Prelude.{Contains, Result, Ok, Err, IfOk}

pub first_item : {X : Type 0} (x : X) (xs : List X) → Contains (x ∷ xs) x
first_item x xs = (zero, omega arith, refl)

pub later_item : {X : Type 0} (x : X) (xs : List X) {y : X} → Contains xs y → Contains (x ∷ xs) y
later_item x xs (k, below, is) = (suc k, omega (arith, below), is)

pub no_item : {X : Type 0} {y : X} → Contains [] y → ⊥
no_item (k, below, is) = omega (arith, below)

pub item_cases : {X : Type 0} (x : X) (xs : List X) {y : X} → Contains (x ∷ xs) y → (x ≡ y) ⊎ Contains xs y
item_cases x xs (zero, below, is) = inl is
item_cases x xs (suc k, below, is) = inr (k, omega (arith, below), is)

-- what holds of each
abbrev pub Each : {A : Type 0} → (A → Type 0) → List A → Type 0
Each P [] = Unit {0}
Each P (x ∷ xs) = P x × Each P xs

pub each-end : {A : Type 0} (P : A → Type 0) (xs : List A) (x : A) → Each P xs → P x → Each P (xs ++ x ∷ [])
each-end P [] x h p = (p, tt)
each-end P (y ∷ xs) x h p = (h.0, each-end P xs x h.1 p)

pub each-append : {A : Type 0} (P : A → Type 0) (xs ys : List A) → Each P xs → Each P ys → Each P (xs ++ ys)
each-append P [] ys h k = k
each-append P (x ∷ xs) ys h k = (h.0, each-append P xs ys h.1 k)

pub ok_then : {X E : Type 0} {P Q : X → Type 0} (r : Result X E) → IfOk r P → ((x : X) → P x → Q x) → IfOk r Q
ok_then (Ok x) p step = step x p
ok_then (Err e) p step = tt
