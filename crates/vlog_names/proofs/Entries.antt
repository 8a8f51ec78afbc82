-- Names that are entered one by one.
use Rattle.std.proofs.Common.{◌≡◌, ℕ, zero, suc, ◌+◌, ◌<◌, Bool, true, false, cond, List, [], ◌∷◌, ◌++◌, length, map}
use Rattle.std.proofs.Common.{subst, append-nil, take, drop, Option, Some, None, get_or, refl, sym, ap, ◌∙◌, drop-cons}
use Rattle.std.proofs.Common.{add-one, arith}
use Rattle.std.specs.Prelude.{◌||◌, is_some}
use Rattle.std.specs.List.{cons_option, filter_map, position_from}
use Rattle.pbs_base.specs.declared.refusal.Refusal.{Refusal}
use Rattle.vlog_text.specs.declared.raw.RawName.{RawName}
use Rattle.vlog_text.specs.Words.{has_word, is_named, repeated}
use Rattle.vlog_text.specs.Standing.{drives}
use Rattle.vlog_text.specs.Refusing.{earliest, refusals}
use Rattle.vlog_names.specs.declared.firsts.Firsts.{Firsts}
use Rattle.vlog_names.specs.Names.{first_in, IsFirsts}
use Rattle.vlog_names.specs.inner.Steps.{or_else, again, when, Learns}
use Rattle.vlog_names.specs.inner.Rows.{one_or_none}
use Rattle.vlog_names.proofs.Noting.{noted_both}

-- ---- places

pub position_both : {X : Type 0} (p : X → Bool) (k : ℕ) (xs ys : List X)
    → position_from p k (xs ++ ys) ≡ or_else (position_from p k xs) (position_from p (k + length xs) ys)
position_both p k [] ys = ap (λ n. position_from p n ys) (omega arith)
position_both p k (x ∷ xs) ys = go (p x) (position_both p (k + 1) xs ys)
  where
    go : (b : Bool) → position_from p (k + 1) (xs ++ ys)
        ≡ or_else (position_from p (k + 1) xs) (position_from p (k + 1 + length xs) ys)
        → cond b (Some k) (position_from p (k + 1) (xs ++ ys))
        ≡ or_else (cond b (Some k) (position_from p (k + 1) xs)) (position_from p (k + suc (length xs)) ys)
    go true e = refl
    go false e = e ∙ ap (λ n. or_else (position_from p (k + 1) xs) (position_from p n ys)) (omega arith)

pub found_of : {X : Type 0} (f : X → Option RawName) (w : List ℕ) (k : ℕ) (xs : List X)
    → is_some (position_from (drives w) k (map f xs)) ≡ is_named (filter_map f xs) w
found_of f w k [] = refl
found_of f w k (x ∷ xs) = go (f x) (found_of f w (k + 1) xs)
  where
    here : (b : Bool) → is_some (position_from (drives w) (k + 1) (map f xs)) ≡ is_named (filter_map f xs) w
        → is_some (cond b (Some k) (position_from (drives w) (k + 1) (map f xs))) ≡ (b || is_named (filter_map f xs) w)
    here true e = refl
    here false e = e

    go : (o : Option RawName) → is_some (position_from (drives w) (k + 1) (map f xs)) ≡ is_named (filter_map f xs) w
        → is_some (cond (drives w o) (Some k) (position_from (drives w) (k + 1) (map f xs)))
        ≡ is_named (cons_option o (filter_map f xs)) w
    go None e = e
    go (Some n) e = here (has_word w n) e

pub all_present : (names : List RawName) → filter_map (λ (n : RawName). Some n) names ≡ names
all_present [] = refl
all_present (n ∷ names) = ap (λ ns. n ∷ ns) (all_present names)

pub mapped_present : {X : Type 0} (f : X → RawName) (xs : List X) → filter_map (λ x. Some (f x)) xs ≡ map f xs
mapped_present f [] = refl
mapped_present f (x ∷ xs) = ap (λ ns. f x ∷ ns) (mapped_present f xs)

-- ---- one name more

module _ {X : Type 0} (f : X → Option RawName) where
  pub take_named : (xs : List X) (i : ℕ) (x : X) → i < length xs → x ≡ get_or xs i x
      → filter_map f (take (suc i) xs) ≡ filter_map f (take i xs) ++ one_or_none (f x)
  take_named [] i x within at = absurd (omega arith)
  take_named (y ∷ ys) zero x within at = ap (λ z. cons_option (f z) []) (sym at) ∙ go (f x)
    where
      go : (o : Option RawName) → cons_option o [] ≡ one_or_none o
      go None = refl
      go (Some n) = refl
  take_named (y ∷ ys) (suc i) x within at = go (f y) (take_named ys i x (omega arith) at)
    where
      go : (o : Option RawName) → filter_map f (take (suc i) ys) ≡ filter_map f (take i ys) ++ one_or_none (f x)
          → cons_option o (filter_map f (take (suc i) ys))
          ≡ cons_option o (filter_map f (take i ys)) ++ one_or_none (f x)
      go None e = e
      go (Some n) e = ap (λ ns. n ∷ ns) e

  pub take_mapped : (xs : List X) (i : ℕ) (x : X) → i < length xs → x ≡ get_or xs i x
      → map f (take (suc i) xs) ≡ map f (take i xs) ++ f x ∷ []
  take_mapped [] i x within at = absurd (omega arith)
  take_mapped (y ∷ ys) zero x within at = ap (λ z. f z ∷ []) (sym at)
  take_mapped (y ∷ ys) (suc i) x within at = ap (λ ns. f y ∷ ns) (take_mapped ys i x (omega arith) at)

  long : (xs : List X) (i : ℕ) → i < length xs → length (map f (take i xs)) ≡ i
  long [] i within = absurd (omega arith)
  long (y ∷ ys) zero within = refl
  long (y ∷ ys) (suc i) within = ap suc (long ys i (omega arith))

  -- the names among the first items are in the table, and those of them that stand twice were noted
  pub record Entered (rule : ℕ) (xs : List X) (i : ℕ) (firsts : Firsts) (start found : Option Refusal) : Type 0 where
    pub firsts_are : IsFirsts (map f (take i xs)) firsts
    pub goes_on : earliest found (refusals rule (repeated (filter_map f (take i xs)) (filter_map f (drop i xs))))
        ≡ earliest start (refusals rule (repeated [] (filter_map f xs)))

  pub firsts_more : (xs : List X) (i : ℕ) (x : X) (firsts new : Firsts) → i < length xs → x ≡ get_or xs i x
      → IsFirsts (map f (take i xs)) firsts → Learns firsts new (f x) i → IsFirsts (map f (take (i + 1) xs)) new
  firsts_more xs i x firsts new within at old learns = record {
    finds = λ w.
        learns.finds w ∙ ap (λ o. or_else o (cond (drives w (f x)) (Some i) None)) (old.finds w)
        ∙ ap (λ n. or_else (position_from (drives w) 0 (map f (take i xs))) (cond (drives w (f x)) (Some n) None))
        (omega (arith, long xs i within))
        ∙ sym (position_both (drives w) 0 (map f (take i xs)) (f x ∷ []))
        ∙ ap (λ ns. position_from (drives w) 0 ns) (sym (take_mapped xs i x within at))
        ∙ ap (λ n. position_from (drives w) 0 (map f (take n xs))) (sym (add-one i));
  }

  again_opens : (before : List RawName) (firsts : List ℕ → Option ℕ) (o : Option RawName) (rest : List RawName)
      → ((w : List ℕ) → is_some (firsts w) ≡ is_named before w)
      → repeated before (cons_option o rest) ≡ again firsts o ++ repeated (before ++ one_or_none o) rest
  again_opens before firsts None rest same = ap (λ b. repeated b rest) (sym (append-nil before))
  again_opens before firsts (Some n) rest same =
      ap (λ b. when b n ++ repeated (before ++ n ∷ []) rest) (sym (same n.word))

  pub repeated_step : (rule : ℕ) (xs : List X) (i : ℕ) (x : X) (row : List RawName) (found found' : Option Refusal)
      → i < length xs → x ≡ get_or xs i x
      → ((rest : List RawName) → repeated (filter_map f (take i xs)) (cons_option (f x) rest)
      ≡ row ++ repeated (filter_map f (take i xs) ++ one_or_none (f x)) rest)
      → found' ≡ earliest found (refusals rule row)
      → earliest found' (refusals rule (repeated (filter_map f (take (i + 1) xs)) (filter_map f (drop (i + 1) xs))))
      ≡ earliest found (refusals rule (repeated (filter_map f (take i xs)) (filter_map f (drop i xs))))
  repeated_step rule xs i x row found found' within at opens e =
      let before = filter_map f (take i xs) in
      let rest = filter_map f (drop (suc i) xs) in
      ap (λ o. earliest o
      (refusals rule (repeated (filter_map f (take (i + 1) xs)) (filter_map f (drop (i + 1) xs))))) e
      ∙ ap (λ n. earliest (earliest found (refusals rule row))
      (refusals rule (repeated (filter_map f (take n xs)) (filter_map f (drop n xs))))) (add-one i)
      ∙ ap (λ b. earliest (earliest found (refusals rule row)) (refusals rule (repeated b rest)))
      (take_named xs i x within at)
      ∙ sym (noted_both found rule row (repeated (before ++ one_or_none (f x)) rest))
      ∙ ap (λ ns. earliest found (refusals rule ns)) (sym (opens rest))
      ∙ ap (λ y. earliest found (refusals rule (repeated before (filter_map f (y ∷ drop (suc i) xs))))) at
      ∙ ap (λ ys. earliest found (refusals rule (repeated before (filter_map f ys)))) (sym (drop-cons xs i x within))

  repeated_more : (rule : ℕ) (xs : List X) (i : ℕ) (x : X) (firsts : Firsts) (found found' : Option Refusal)
      → i < length xs → x ≡ get_or xs i x → IsFirsts (map f (take i xs)) firsts
      → found' ≡ earliest found (refusals rule (again (first_in firsts) (f x)))
      → earliest found' (refusals rule (repeated (filter_map f (take (i + 1) xs)) (filter_map f (drop (i + 1) xs))))
      ≡ earliest found (refusals rule (repeated (filter_map f (take i xs)) (filter_map f (drop i xs))))
  repeated_more rule xs i x firsts found found' within at old e =
      repeated_step rule xs i x (again (first_in firsts) (f x)) found found' within at
      (λ rest. again_opens (filter_map f (take i xs)) (first_in firsts) (f x) rest
      (λ w. ap (λ o. is_some o) (old.finds w) ∙ found_of f w 0 (take i xs))) e

  pub entered_more : (rule : ℕ) (xs : List X) (i : ℕ) (x : X) (firsts new : Firsts)
      (start found found' : Option Refusal) → i < length xs → x ≡ get_or xs i x
      → Entered rule xs i firsts start found → Learns firsts new (f x) i
      → found' ≡ earliest found (refusals rule (again (first_in firsts) (f x)))
      → Entered rule xs (i + 1) new start found'
  entered_more rule xs i x firsts new start found found' within at e learns noted = record {
    firsts_are = firsts_more xs i x firsts new within at e.firsts_are learns;
    goes_on = repeated_more rule xs i x firsts found found' within at e.firsts_are noted ∙ e.goes_on;
  }

  pub take_all : (xs : List X) (n : ℕ) → n ≡ length xs → take n xs ≡ xs
  take_all [] zero e = refl
  take_all [] (suc n) e = refl
  take_all (x ∷ xs) zero e = absurd (omega arith)
  take_all (x ∷ xs) (suc n) e = ap (λ ys. x ∷ ys) (take_all xs n (omega arith))

  pub drop_all : (xs : List X) (n : ℕ) → n ≡ length xs → drop n xs ≡ []
  drop_all [] zero e = refl
  drop_all [] (suc n) e = refl
  drop_all (x ∷ xs) zero e = absurd (omega arith)
  drop_all (x ∷ xs) (suc n) e = drop_all xs n (omega arith)

  pub entered_firsts : (rule : ℕ) (xs : List X) (i : ℕ) (firsts : Firsts) (start found : Option Refusal)
      → Entered rule xs i firsts start found → i ≡ length xs → IsFirsts (map f xs) firsts
  entered_firsts rule xs i firsts start found e all =
      subst (λ ys. IsFirsts (map f ys) firsts) (take_all xs i all) e.firsts_are

  pub entered_found : (rule : ℕ) (xs : List X) (i : ℕ) (firsts : Firsts) (start found : Option Refusal)
      → Entered rule xs i firsts start found → i ≡ length xs
      → found ≡ earliest start (refusals rule (repeated [] (filter_map f xs)))
  entered_found rule xs i firsts start found e all =
      ap (λ ys. earliest found (refusals rule (repeated (filter_map f (take i xs)) (filter_map f ys))))
      (sym (drop_all xs i all))
      ∙ e.goes_on
