-- Names of which none stands twice.
use Rattle.std.proofs.Common.{◌≡◌, ℕ, zero, suc, ◌<◌, Bool, true, false, cond, List, [], ◌∷◌, ◌++◌, length, map}
use Rattle.std.proofs.Common.{filter, take, get_or, refl, sym, ap, ◌∙◌, subst, append_assoc, append-nil, arith}
use Rattle.std.specs.Prelude.{◌||◌, Contains}
use Rattle.std.proofs.lemmas.Bool.{or_left, or_right}
use Rattle.std.proofs.lemmas.Slice.Eq.{bytes_eq-Decides}
use Rattle.vlog_text.specs.declared.raw.RawName.{RawName}
use Rattle.vlog_text.specs.Words.{has_word, is_named, repeated}
use Rattle.vlog_elaborate.proofs.NameLists.{right_empty}

-- a word among those of picked names is one of the names
pub named_among : (p : RawName → Bool) (xs : List RawName) (w : List ℕ)
    → Contains (map (λ (n : RawName). n.word) (filter p xs)) w → is_named xs w ≡ true
named_among p [] w (k, within, at) = absurd (omega arith)
named_among p (x ∷ xs) w there = go (p x) there (named_among p xs w)
  where
    same : x.word ≡ w → has_word w x ≡ true
    same e = (bytes_eq-Decides w x.word).1 (sym e)

    go : (b : Bool) → Contains (map (λ (n : RawName). n.word) (cond b (x ∷ filter p xs) (filter p xs))) w
        → (Contains (map (λ (n : RawName). n.word) (filter p xs)) w → is_named xs w ≡ true)
        → (has_word w x || is_named xs w) ≡ true
    go true (zero, within, at) more = or_left (has_word w x) (is_named xs w) (same at)
    go true (suc k, within, at) more = or_right (has_word w x) (is_named xs w) (more (k, omega arith, at))
    go false c more = or_right (has_word w x) (is_named xs w) (more c)

-- ---- a name of which none before it has the word

row_empty : (b : Bool) (x : RawName) (rest : List RawName) → cond b (x ∷ []) [] ++ rest ≡ [] → b ≡ false
row_empty true x rest e = absurd (cc)
row_empty false x rest e = refl

new_from : (before xs : List RawName) (i : ℕ) (x : RawName) → repeated before xs ≡ [] → i < length xs
    → x ≡ get_or xs i x → is_named (before ++ take i xs) x.word ≡ false
new_from before [] i x e within at = absurd (omega arith)
new_from before (y ∷ ys) zero x e within at =
    ap (λ ns. is_named ns x.word) (append-nil before)
    ∙ ap (λ (z : RawName). is_named before z.word) at
    ∙ row_empty (is_named before y.word) y (repeated (before ++ y ∷ []) ys) e
new_from before (y ∷ ys) (suc i) x e within at =
    ap (λ ns. is_named ns x.word) (sym (append_assoc before (y ∷ []) (take i ys)))
    ∙ new_from (before ++ y ∷ []) ys i x
    (right_empty (cond (is_named before y.word) (y ∷ []) []) (repeated (before ++ y ∷ []) ys) e) (omega arith) at

pub is_new : (p : RawName → Bool) (xs : List RawName) (i : ℕ) (x : RawName) (words : List (List ℕ))
    → repeated [] xs ≡ [] → i < length xs → x ≡ get_or xs i x
    → words ≡ map (λ (n : RawName). n.word) (filter p (take i xs)) → Contains words x.word → ⊥
is_new p xs i x words e within at are there =
    let there : Contains (map (λ (n : RawName). n.word) (filter p (take i xs))) x.word =
    subst (λ (ws : List (List ℕ)). Contains ws x.word) are there in
    let named : is_named (take i xs) x.word ≡ true = named_among p (take i xs) x.word there in
    let not_named : is_named (take i xs) x.word ≡ false = new_from [] xs i x e within at in
    cc
