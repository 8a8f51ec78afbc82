-- No two lists of terms are written as one word.
use Rattle.std.proofs.Common.{◌≡◌, ℕ, Bool, true, false, List, [], ◌∷◌, ◌++◌, ◌&&◌, refl, sym, ◌∙◌, ap, append_assoc}
use Rattle.bool_terms.specs.Terms.{Term, Const, Input, Not, And, Or, holds}
use Rattle.pbs_edges.specs.Codes.{code, code_all}
use Rattle.pbs_edges.specs.Effective.{all_true}

-- where two words begin with a term each, it is the same, and so is the rest
abbrev Alike : Term → Term → List ℕ → List ℕ → Type 0
Alike t u xs ys = (t ≡ u) × (xs ≡ ys)

head_of : {x y : ℕ} {xs ys : List ℕ} → x ∷ xs ≡ y ∷ ys → x ≡ y
head_of e = cc

tail_of : {x y : ℕ} {xs ys : List ℕ} → x ∷ xs ≡ y ∷ ys → xs ≡ ys
tail_of e = cc

two_parts : (a b : List ℕ) (xs : List ℕ) → (a ++ b) ++ xs ≡ a ++ (b ++ xs)
two_parts a b xs = append_assoc a b xs

pub code-alike : (t u : Term) (xs ys : List ℕ) → code t ++ xs ≡ code u ++ ys → Alike t u xs ys
code-alike (Const false) (Const false) xs ys e = (refl, tail_of e)
code-alike (Const true) (Const true) xs ys e = (refl, tail_of e)
code-alike (Const false) (Const true) xs ys e = let h = head_of e in absurd (cc)
code-alike (Const true) (Const false) xs ys e = let h = head_of e in absurd (cc)
code-alike (Const false) (Input m) xs ys e = let h = head_of e in absurd (cc)
code-alike (Const true) (Input m) xs ys e = let h = head_of e in absurd (cc)
code-alike (Const false) (Not u) xs ys e = let h = head_of e in absurd (cc)
code-alike (Const true) (Not u) xs ys e = let h = head_of e in absurd (cc)
code-alike (Const false) (And u v) xs ys e = let h = head_of e in absurd (cc)
code-alike (Const true) (And u v) xs ys e = let h = head_of e in absurd (cc)
code-alike (Const false) (Or u v) xs ys e = let h = head_of e in absurd (cc)
code-alike (Const true) (Or u v) xs ys e = let h = head_of e in absurd (cc)
code-alike (Input n) (Const false) xs ys e = let h = head_of e in absurd (cc)
code-alike (Input n) (Const true) xs ys e = let h = head_of e in absurd (cc)
code-alike (Input n) (Input m) xs ys e = (ap Input (head_of (tail_of e)), tail_of (tail_of e))
code-alike (Input n) (Not u) xs ys e = let h = head_of e in absurd (cc)
code-alike (Input n) (And u v) xs ys e = let h = head_of e in absurd (cc)
code-alike (Input n) (Or u v) xs ys e = let h = head_of e in absurd (cc)
code-alike (Not t) (Const false) xs ys e = let h = head_of e in absurd (cc)
code-alike (Not t) (Const true) xs ys e = let h = head_of e in absurd (cc)
code-alike (Not t) (Input m) xs ys e = let h = head_of e in absurd (cc)
code-alike (Not t) (Not u) xs ys e = let r = code-alike t u xs ys (tail_of e) in (ap Not r.0, r.1)
code-alike (Not t) (And u v) xs ys e = let h = head_of e in absurd (cc)
code-alike (Not t) (Or u v) xs ys e = let h = head_of e in absurd (cc)
code-alike (And s t) (Const false) xs ys e = let h = head_of e in absurd (cc)
code-alike (And s t) (Const true) xs ys e = let h = head_of e in absurd (cc)
code-alike (And s t) (Input m) xs ys e = let h = head_of e in absurd (cc)
code-alike (And s t) (Not u) xs ys e = let h = head_of e in absurd (cc)
code-alike (And s t) (And u v) xs ys e =
    let r = code-alike s u (code t ++ xs) (code v ++ ys)
    (sym (two_parts (code s) (code t) xs) ∙ tail_of e ∙ two_parts (code u) (code v) ys) in
    let q = code-alike t v xs ys r.1 in
    (ap (λ x. And x t) r.0 ∙ ap (λ x. And u x) q.0, q.1)
code-alike (And s t) (Or u v) xs ys e = let h = head_of e in absurd (cc)
code-alike (Or s t) (Const false) xs ys e = let h = head_of e in absurd (cc)
code-alike (Or s t) (Const true) xs ys e = let h = head_of e in absurd (cc)
code-alike (Or s t) (Input m) xs ys e = let h = head_of e in absurd (cc)
code-alike (Or s t) (Not u) xs ys e = let h = head_of e in absurd (cc)
code-alike (Or s t) (And u v) xs ys e = let h = head_of e in absurd (cc)
code-alike (Or s t) (Or u v) xs ys e =
    let r = code-alike s u (code t ++ xs) (code v ++ ys)
    (sym (two_parts (code s) (code t) xs) ∙ tail_of e ∙ two_parts (code u) (code v) ys) in
    let q = code-alike t v xs ys r.1 in
    (ap (λ x. Or x t) r.0 ∙ ap (λ x. Or u x) q.0, q.1)

-- a term is written as one byte at least
code-some : (t : Term) (xs : List ℕ) → code t ++ xs ≡ [] → ⊥
code-some (Const false) xs e = cc
code-some (Const true) xs e = cc
code-some (Input n) xs e = cc
code-some (Not t) xs e = cc
code-some (And s t) xs e = cc
code-some (Or s t) xs e = cc

pub same_terms : (ts us : List Term) → code_all ts ≡ code_all us → ts ≡ us
same_terms [] [] e = refl
same_terms [] (u ∷ us) e = absurd (code-some u (code_all us) (sym e))
same_terms (t ∷ ts) [] e = absurd (code-some t (code_all ts) e)
same_terms (t ∷ ts) (u ∷ us) e =
    let r = code-alike t u (code_all ts) (code_all us) e in
    ap (λ x. x ∷ ts) r.0 ∙ ap (λ xs. u ∷ xs) (same_terms ts us r.1)

pub code_all-append : (ts us : List Term) → code_all (ts ++ us) ≡ code_all ts ++ code_all us
code_all-append [] us = refl
code_all-append (t ∷ ts) us =
    ap (λ xs. code t ++ xs) (code_all-append ts us) ∙ sym (append_assoc (code t) (code_all ts) (code_all us))

and_assoc : (a b c : Bool) → (a && b) && c ≡ a && (b && c)
and_assoc true b c = refl
and_assoc false b c = refl

pub all_true-append : (ts us : List Term) (v : ℕ) → all_true (ts ++ us) v ≡ all_true ts v && all_true us v
all_true-append [] us v = refl
all_true-append (t ∷ ts) us v =
    ap (λ x. holds t v && x) (all_true-append ts us v) ∙ sym (and_assoc (holds t v) (all_true ts v) (all_true us v))
