-- What connectives and comparisons mean.
use Rattle.std.proofs.Common.{◌≡◌, ◌≤◌, ◌<◌, ℕ, zero, suc, ◌+◌, ◌/◌, List, [], ◌∷◌, length, map, take, drop, refl}
use Rattle.std.proofs.Common.{sym, ap, subst, ◌∙◌, arith, Bool, true, false, ◌&&◌, ◌||◌, not, if◌then◌else◌}
use Rattle.std.specs.List.{list_all, list_any}
use Rattle.std.proofs.lemmas.List.{length-take-le, length-drop, take-append-drop}
use Rattle.std.proofs.lemmas.Bool.{and_parts, and_from, true≢false, false≢true}
use Rattle.std.proofs.lemmas.List.Folds.{list_all-append, list_any-append}
use Rattle.pbs_base.specs.Entries.{bit}
use Rattle.bool_terms.specs.Terms.{Term, Input, Not, holds}
use Rattle.pbs_expand.specs.declared.terms.Connective.TheVariants.{AndOf, OrOf}
use Rattle.pbs_expand.specs.Written.{joined, literal, literals}

and_true : (b : Bool) → b ≡ (b && true)
and_true true = refl
and_true false = refl

or_false : (b : Bool) → b ≡ (b || false)
or_false true = refl
or_false false = refl

pub joined_all : (room : ℕ) (ts : List Term) (v : ℕ) → length ts ≤ room
    → holds (joined room AndOf ts) v ≡ list_all (λ t. holds t v) ts
joined_all zero [] v fits = refl
joined_all zero (t ∷ ts) v fits = absurd (omega (arith, fits))
joined_all (suc room) [] v fits = refl
joined_all (suc room) (t ∷ []) v fits = and_true (holds t v)
joined_all (suc room) (a ∷ b ∷ ts) v fits =
    let all = a ∷ b ∷ ts in let h = (length all + 1) / 2 in let p : Term → Bool = λ t. holds t v in
    let l = length-take-le h all (omega arith) in
    let r = length-drop h all in
    let left = joined_all room (take h all) v (omega (arith, l, fits)) in
    let right = joined_all room (drop h all) v (omega (arith, r, fits)) in
    ap (λ x. x && holds (joined room AndOf (drop h all)) v) left ∙ ap (λ x. list_all p (take h all) && x) right
    ∙ sym (list_all-append p (take h all) (drop h all)) ∙ ap (list_all p) (take-append-drop h all)

pub joined_any : (room : ℕ) (ts : List Term) (v : ℕ) → length ts ≤ room
    → holds (joined room OrOf ts) v ≡ list_any (λ t. holds t v) ts
joined_any zero [] v fits = refl
joined_any zero (t ∷ ts) v fits = absurd (omega (arith, fits))
joined_any (suc room) [] v fits = refl
joined_any (suc room) (t ∷ []) v fits = or_false (holds t v)
joined_any (suc room) (a ∷ b ∷ ts) v fits =
    let all = a ∷ b ∷ ts in let h = (length all + 1) / 2 in let p : Term → Bool = λ t. holds t v in
    let l = length-take-le h all (omega arith) in
    let r = length-drop h all in
    let left = joined_any room (take h all) v (omega (arith, l, fits)) in
    let right = joined_any room (drop h all) v (omega (arith, r, fits)) in
    ap (λ x. x || holds (joined room OrOf (drop h all)) v) left ∙ ap (λ x. list_any p (take h all) || x) right
    ∙ sym (list_any-append p (take h all) (drop h all)) ∙ ap (list_any p) (take-append-drop h all)

pub any_mapped : {X Y : Type 0} (p : X → Bool) (h : Y → X) (ys : List Y)
    → list_any p (map h ys) ≡ list_any (λ y. p (h y)) ys
any_mapped p h [] = refl
any_mapped p h (y ∷ ys) = ap (λ x. p (h y) || x) (any_mapped p h ys)

-- a literal is true where the bit is that of the number
pub literal_holds : (start number k v : ℕ) → holds (literal start number k) v ≡ true
    → bit (start + k) v ≡ bit k number
literal_holds start number k v is = of (bit k number) is
  where
    not_one : (c : Bool) → not c ≡ true → c ≡ false
    not_one true e = absurd (false≢true e)
    not_one false e = refl

    of : (b : Bool) → holds (if b then Input (start + k) else Not (Input (start + k))) v ≡ true
        → bit (start + k) v ≡ b
    of true e = e
    of false e = not_one (bit (start + k) v) e

pub holds_literal : (start number k v : ℕ) → bit (start + k) v ≡ bit k number
    → holds (literal start number k) v ≡ true
holds_literal start number k v is = of (bit k number) is
  where
    not_zero : (c : Bool) → c ≡ false → not c ≡ true
    not_zero true e = absurd (true≢false e)
    not_zero false e = refl

    of : (b : Bool) → bit (start + k) v ≡ b
        → holds (if b then Input (start + k) else Not (Input (start + k))) v ≡ true
    of true e = e
    of false e = not_zero (bit (start + k) v) e

-- the literals of the bits from k on are true where these bits are those of the number
pub literals_hold : (start number k n v : ℕ) → list_all (λ t. holds t v) (literals start number k n) ≡ true
    → (j : ℕ) → j < n → bit (start + (k + j)) v ≡ bit (k + j) number
literals_hold start number k zero v is j below = absurd (omega (arith, below))
literals_hold start number k (suc n) v is zero below =
    let same : k ≡ k + 0 = omega arith in
    subst
    (λ m. bit (start + m) v ≡ bit m number)
    same
    (literal_holds start number k v (and_parts _ _ is).0)
literals_hold start number k (suc n) v is (suc j) below =
    let same : (k + 1) + j ≡ k + suc j = omega arith in
    subst
    (λ m. bit (start + m) v ≡ bit m number)
    same
    (literals_hold start number (k + 1) n v (and_parts _ _ is).1 j (omega (arith, below)))

pub hold_literals : (start number k n v : ℕ) → ((j : ℕ) → j < n → bit (start + (k + j)) v ≡ bit (k + j) number)
    → list_all (λ t. holds t v) (literals start number k n) ≡ true
hold_literals start number k zero v is = refl
hold_literals start number k (suc n) v is =
    let same : k + 0 ≡ k = omega arith in
    let first = subst (λ m. bit (start + m) v ≡ bit m number) same (is zero (omega arith)) in
    let moved : (j : ℕ) → k + suc j ≡ (k + 1) + j = λ j. omega arith in
    and_from
    (holds (literal start number k) v)
    (list_all (λ t. holds t v) (literals start number (k + 1) n))
    (holds_literal start number k v first)
    (hold_literals start number (k + 1) n v (λ j below. subst
    (λ m. bit (start + m) v ≡ bit m number)
    (moved j)
    (is (suc j) (omega (arith, below)))))
