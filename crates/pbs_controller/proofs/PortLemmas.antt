-- Names with a prefix.
use Rattle.std.proofs.Common.{◌≡◌, ◌+◌, ℕ, zero, suc, true, false, List, [], ◌∷◌, ◌++◌, take, Bool, Some, option_map}
use Rattle.std.proofs.Common.{refl, sym, ap, ◌∙◌, ◌⊎◌, inl, inr, length, length-append, codes, arith}
use Rattle.std.specs.Prelude.{slice_get, Contains}
use Rattle.std.proofs.lemmas.List.{get_or-append-add, length-map}
use Rattle.std.proofs.Math.Seq.{take-append-add}
use Rattle.std.proofs.lemmas.Option.{slice_get-map, same_Some, slice_get-get_or, slice_get_within}
use Rattle.std.proofs.lemmas.Option.{get_or_from_slice_get}
use Rattle.pbs_base.specs.Words.{AreDifferent}
use Rattle.pbs_base.proofs.WordLemmas.{one_name_more}
use Rattle.pbs_controller.specs.Ports.{output_ports, ports_of}

cancels : (front xs ys : List ℕ) → front ++ xs ≡ front ++ ys → xs ≡ ys
cancels [] xs ys e = e
cancels (x ∷ front) xs ys e = cancels front xs ys (ap tail e)
  where
    tail : List ℕ → List ℕ
    tail [] = []
    tail (y ∷ ys) = ys

-- a port is the prefix and a name
found_in : (prefix : List ℕ) (names : List (List ℕ)) (m : ℕ) (word : List ℕ)
    → slice_get (ports_of prefix names) m ≡ Some word
    → (name : List ℕ) × (slice_get names m ≡ Some name) × (prefix ++ name ≡ word)
found_in prefix [] m word p = absurd (cc)
found_in prefix (name ∷ names) zero word p = (name, refl, same_Some (prefix ++ name) word p)
found_in prefix (name ∷ names) (suc m) word p = found_in prefix names m word p

pub ports_differ : (prefix : List ℕ) (names : List (List ℕ)) → AreDifferent names
    → AreDifferent (ports_of prefix names)
ports_differ prefix names different = record {
  once = λ m n word p q.
      let front = found_in prefix names m word p in
      let back = found_in prefix names n word q in
      different.once m n front.0 front.1 (back.1 ∙ ap Some (cancels prefix back.0 front.0 (back.2 ∙ sym front.2)));
}

-- ---- two lists of names

get_behind : (xs ys : List (List ℕ)) (n : ℕ) (word : List ℕ) → slice_get ys n ≡ Some word
    → slice_get (xs ++ ys) (length xs + n) ≡ Some word
get_behind xs ys n word at =
    let longer = length-append xs ys in
    let within = slice_get_within ys n word at in
    slice_get-get_or (xs ++ ys) (length xs + n) word (omega (arith, longer, within))
    ∙ ap Some (get_or-append-add xs ys n word ∙ get_or_from_slice_get ys n word word at)

-- a word of two lists is one of the first or one of the second
in_either : (xs ys : List (List ℕ)) (n : ℕ) (word : List ℕ) → slice_get (xs ++ ys) n ≡ Some word
    → (slice_get xs n ≡ Some word) ⊎ ((i : ℕ) × (n ≡ length xs + i) × (slice_get ys i ≡ Some word))
in_either [] ys n word at = inr (n, omega arith, at)
in_either (x ∷ xs) ys zero word at = inl at
in_either (x ∷ xs) ys (suc n) word at = elim (in_either xs ys n word at) [
  | inl p ↦ inl p
  | inr (i, e, q) ↦ inr (i, omega (arith, e), q)
]

pub both_differ : (xs ys : List (List ℕ)) → AreDifferent xs → AreDifferent ys
    → ((m n : ℕ) (word : List ℕ) → slice_get xs m ≡ Some word → slice_get ys n ≡ Some word → ⊥)
    → AreDifferent (xs ++ ys)
both_differ xs ys first second apart = record {
  once = λ m n word p q. elim (in_either xs ys m word p) [
    | inl p' ↦ elim (in_either xs ys n word q) [
      | inl q' ↦ first.once m n word p' q'
      | inr (j, f, q') ↦ absurd (apart m j word p' q')
    ]
    | inr (i, e, p') ↦ elim (in_either xs ys n word q) [
      | inl q' ↦ absurd (apart n i word q' p')
      | inr (j, f, q') ↦ e ∙ ap (λ n. length xs + n) (second.once i j word p' q') ∙ sym f
    ]
  ];
}

abbrev first_letter : List ℕ → ℕ
first_letter [] = 0
first_letter (x ∷ xs) = x

letters_apart : (x y : List ℕ) → codes "a_" ++ x ≡ codes "o_" ++ y → ⊥
letters_apart x y e =
    let same : first_letter (codes "a_" ++ x) ≡ first_letter (codes "o_" ++ y) = ap first_letter e in
    omega (arith, same)

-- the ports of actions begin with `a`, and those of levels with `o`
pub outputs_differ : (actions levels : List (List ℕ)) → AreDifferent actions → AreDifferent levels
    → AreDifferent (output_ports actions levels)
outputs_differ actions levels first second =
    both_differ (ports_of (codes "a_") actions) (ports_of (codes "o_") levels)
    (ports_differ (codes "a_") actions first) (ports_differ (codes "o_") levels second) (λ m n word p q.
    let front = found_in (codes "a_") actions m word p in
    let back = found_in (codes "o_") levels n word q in
    letters_apart front.0 back.0 (front.2 ∙ sym back.2))

pub length-outputs : (actions levels : List (List ℕ))
    → length (output_ports actions levels) ≡ length actions + length levels
length-outputs actions levels =
    let both = length-append (ports_of (codes "a_") actions) (ports_of (codes "o_") levels) in
    omega (
      arith,
      both,
      length-map actions (λ name. codes "a_" ++ name),
      length-map levels (λ name. codes "o_" ++ name),
    )

-- ---- one port more

pub one_port_more : (base : List (List ℕ)) (prefix : List ℕ) (names old new : List (List ℕ)) (n : ℕ)
    (name port : List ℕ) (added : Bool)
    → AreDifferent (base ++ ports_of prefix names) → slice_get names n ≡ Some name → port ≡ prefix ++ name
    → old ≡ base ++ take n (ports_of prefix names)
    → (added ≡ false → Contains old port) → (added ≡ true → new ≡ old ++ port ∷ [])
    → new ≡ base ++ take (n + 1) (ports_of prefix names)
one_port_more base prefix names old new n name port added different at is so_far there grown =
    let ports = ports_of prefix names in
    let here : slice_get ports n ≡ Some port =
    slice_get-map (λ x. prefix ++ x) names n ∙ (ap (option_map (λ x. prefix ++ x)) at ∙ ap Some (sym is)) in
    let more : length base + n + 1 ≡ length base + (n + 1) = omega arith in
    one_name_more (base ++ ports) old new (length base + n) port added different (get_behind base ports n port here)
    (so_far ∙ sym (take-append-add base ports n)) there grown
    ∙ ap (λ k. take k (base ++ ports)) more
    ∙ take-append-add base ports (n + 1)
