-- Terms written one after another.
use Rattle.std.proofs.Common.{◌≡◌, ◌≤◌, ◌<◌, ℕ, suc, ◌+◌, ◌*◌, ◌-◌, ◌/◌, ◌^◌, nat_eq, bit_and, subst, get_or, List, []}
use Rattle.std.proofs.Common.{◌∷◌, ◌++◌, length, drop, map, sym, ap, ◌∙◌, arith, append_assoc}
use Rattle.std.proofs.lemmas.List.{drop-map}
use Rattle.std.proofs.Math.Seq.{drop-cons}
use Rattle.bool_terms.specs.Terms.{Term, Input, Not, term_nodes}
use Rattle.pbs_expand.specs.Written.{literal, literals}
use Rattle.std.specs.Prelude.{if◌then◌else◌}
use Rattle.std.proofs.lemmas.Nat.Bits.{shr_and_one}
use Rattle.pbs_expand.specs.declared.terms.Written.{Written}
use Rattle.pbs_expand.specs.inner.WrittenTerms.{weight, IsWritten}

pub record IsWritingTo (ts : List Term) (index room : ℕ) (done : List Term) (nodes : ℕ) : Type 0 where
  pub terms : done ++ drop index ts ≡ ts
  pub weighs : nodes + weight (drop index ts) ≡ weight ts
  pub fits : nodes ≤ room + 1

-- the items from one on
item_at : {X : Type 0} (f : X → Term) (xs : List X) (i : ℕ) (x : X) → i < length xs → x ≡ get_or xs i x
    → drop i (map f xs) ≡ f x ∷ drop (i + 1) (map f xs)
item_at f xs i x within is =
    let here : drop i xs ≡ x ∷ drop (suc i) xs = drop-cons xs i x within ∙ ap (λ z. z ∷ drop (suc i) xs) (sym is) in
    let next : suc i ≡ i + 1 = omega arith in
    drop-map f i xs ∙ ap (map f) here ∙ ap (λ z. f x ∷ z) (sym (drop-map f (suc i) xs))
    ∙ ap (λ k. f x ∷ drop k (map f xs)) next

pub room_passed : {X : Type 0} (f : X → Term) (xs : List X) (i room nodes : ℕ) (x : X) (done : List Term)
    → IsWritingTo (map f xs) i room done nodes → i < length xs → x ≡ get_or xs i x → room < nodes
    → room + 1 < weight (map f xs)
room_passed f xs i room nodes x done so_far within is over =
    let w : weight (drop i (map f xs)) ≡ term_nodes (f x) + 1 + weight (drop (i + 1) (map f xs)) = ap weight
    (item_at f xs i x within is) in
    omega (arith, so_far.weighs, w, over)

pub item_passed : {X : Type 0} (f : X → Term) (xs : List X) (i room nodes : ℕ) (x : X) (done : List Term)
    → IsWritingTo (map f xs) i room done nodes → i < length xs → x ≡ get_or xs i x → nodes ≤ room
    → room - nodes < term_nodes (f x) → room + 1 < weight (map f xs)
item_passed f xs i room nodes x done so_far within is fits over =
    let w : weight (drop i (map f xs)) ≡ term_nodes (f x) + 1 + weight (drop (i + 1) (map f xs)) = ap weight
    (item_at f xs i x within is) in
    omega (arith, so_far.weighs, w, over, fits)

pub item_written : {X : Type 0} (f : X → Term) (xs : List X) (i room nodes more : ℕ) (x : X) (done after : List Term)
    → IsWritingTo (map f xs) i room done nodes → i < length xs → x ≡ get_or xs i x → nodes ≤ room
    → more ≡ term_nodes (f x) → more ≤ room - nodes → after ≡ done ++ f x ∷ []
    → IsWritingTo (map f xs) (i + 1) room after (nodes + more + 1)
item_written f xs i room nodes more x done after so_far within is fits exact more_fits grown =
    let here = item_at f xs i x within is in
    let w : weight (drop i (map f xs)) ≡ term_nodes (f x) + 1 + weight (drop (i + 1) (map f xs)) = ap weight here in
    record {
      terms = ap (λ z. z ++ drop (i + 1) (map f xs)) grown ∙ append_assoc done (f x ∷ []) (drop (i + 1) (map f xs))
          ∙ ap (λ z. done ++ z) (sym here) ∙ so_far.terms;
      weighs = omega (arith, so_far.weighs, w, exact);
      fits = omega (arith, more_fits, fits);
    }

-- the bit that the code looks at is that of the definition
pub literal_is : (start number k room : ℕ) (w : Written)
    → IsWritten (if nat_eq (bit_and (number / 2 ^ k) 1) 1 then Input (start + k) else Not (Input (start + k))) room w
    → IsWritten (literal start number k) room w
literal_is start number k room w is =
    let P : ℕ → Type 0 = λ x. IsWritten (if nat_eq x 1 then Input (start + k) else Not (Input (start + k))) room w in
    subst P (shr_and_one number k) is

-- the literals of a bus up to a bit were written
pub record IsAtBit (start number k n : ℕ) (done : List Term) (nodes : ℕ) : Type 0 where
  pub terms : done ++ literals start number k (n - k) ≡ literals start number 0 n
  pub weighs : nodes + weight (literals start number k (n - k)) ≡ weight (literals start number 0 n)
  pub few : nodes ≤ 3 * k

pub bit_written : (start number k n nodes more : ℕ) (old new : List Term) (t : Term) → k < n
    → IsAtBit start number k n old nodes → t ≡ literal start number k → more ≡ term_nodes t → more ≤ 2
    → new ≡ old ++ t ∷ [] → IsAtBit start number (k + 1) n new (nodes + (more + 1))
bit_written start number k n nodes more old new t below so_far is exact small grown =
    let one : n - k ≡ suc (n - (k + 1)) = omega (arith, below) in
    let rest = literals start number (k + 1) (n - (k + 1)) in
    let here : literals start number k (n - k) ≡ t ∷ rest = ap (literals start number k) one
    ∙ ap (λ z. z ∷ rest) (sym is) in
    let w : weight (literals start number k (n - k)) ≡ term_nodes t + 1 + weight rest = ap weight here in
    record {
      terms = ap (λ z. z ++ rest) grown ∙ append_assoc old (t ∷ []) rest ∙ ap (λ z. old ++ z) (sym here) ∙ so_far.terms;
      weighs = omega (arith, so_far.weighs, w, exact);
      few = omega (arith, so_far.few, small);
    }
