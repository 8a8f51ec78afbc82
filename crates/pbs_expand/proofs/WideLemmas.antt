-- The inputs of effective terms, as a set that is held.
use Rattle.std.proofs.Common.{◌≡◌, ◌≤◌, ◌<◌, ℕ, zero, suc, ◌+◌, ◌*◌, ◌^◌, Bool, true, false, ◌||◌, cond, List, [], ◌∷◌}
use Rattle.std.proofs.Common.{◌++◌, map, length, Option, Some, None, nat_eq, nat_lt, refl, sym, ap, subst, ◌∙◌, arith}
use Rattle.std.proofs.Common.{bit_or, max}
use Rattle.std.specs.Prelude.{count_ones, count_by, if◌then◌else◌}
use Rattle.std.specs.List.{find, range_with_len}
use Rattle.std.specs.Option.{option_map, option_or}
use Rattle.std.specs.Int.{bit_at}
use Rattle.std.specs.Simd.Lanes.{mask_l}
use Rattle.std.proofs.Math.Nat.{mod-lt}
use Rattle.std.proofs.lemmas.Nat.{or_lt}
use Rattle.std.proofs.lemmas.Nat.Bits.{same_from_bits_below, bit_at_or, bit_at-lt, bit_at-zero}
use Rattle.std.proofs.lemmas.Simd.{mask_l-lt, bit_mask_l, ones-mask_l}
use Rattle.std.proofs.lemmas.List.FromFn.{length-map-range_with_len, get_or-map-range_with_len}
use Rattle.std.proofs.lemmas.List.Folds.{find-append}
use Rattle.std.proofs.lemmas.Bool.Decides.{nat_tests}
use Rattle.std.proofs.lemmas.Bool.{and_parts}
use Rattle.pbs_base.specs.declared.refusal.Span.{Span}
use Rattle.pbs_base.specs.Entries.{bit}
use Rattle.bool_terms.specs.Terms.{Term, Const, Input, Not, And, Or, mentions, input_set, IsInputSet, term_inputs_below}
use Rattle.bool_terms.proofs.InputSets.{input_set_one, input_set_and, input_set_or}
use Rattle.pbs_ast.specs.Trees.{Tree, Empty, Terminal, Action, Seq, Choice, Star, Hold, Scope}
use Rattle.pbs_ast.specs.Sound.{inputs_below, first_wide, or_else}
use Rattle.pbs_expand.specs.Wide.{Place, places_in, mentioned, distinct_inputs, first_too_wide}

-- ---- how many bits are 1
digit : (b : ℕ) → b < 2 → b ≡ cond (nat_eq b 1) 1 0
digit zero small = refl
digit (suc zero) small = refl
digit (suc (suc b)) small = absurd (omega (arith, small))

ones_by_bits : (n held : ℕ) → held < 2 ^ n → count_ones held ≡ count_by (λ k. bit k held) (range_with_len 0 n)
ones_by_bits n held below =
    let test = λ (k : ℕ). bit k held in let ms = map test (range_with_len 0 n) in
    let len : length ms ≡ n = length-map-range_with_len test 0 n in
    let small : mask_l ms < 2 ^ n = let P : ℕ → Type 0 = λ k. mask_l ms < 2 ^ k in subst P len (mask_l-lt ms) in
    let same : held ≡ mask_l ms = same_from_bits_below n held (mask_l ms) below small (λ i within.
    digit (bit_at held i) (bit_at-lt held i)
    ∙ ap (λ b. cond b 1 0) (sym (get_or-map-range_with_len test 0 n i i false within (omega arith)))
    ∙ sym (bit_mask_l ms i)) in
    ap count_ones same ∙ ones-mask_l test (range_with_len 0 n)

map_same : (p q : ℕ → Bool) (a n bound : ℕ) → a + n ≤ bound → ((k : ℕ) → k < bound → p k ≡ q k)
    → map p (range_with_len a n) ≡ map q (range_with_len a n)
map_same p q a zero bound fits same = refl
map_same p q a (suc n) bound fits same =
    let rest = range_with_len (a + 1) n in
    let later : map p rest ≡ map q rest = map_same p q (a + 1) n bound (omega (arith, fits)) same in
    ap (λ b. b ∷ map p rest) (same a (omega (arith, fits))) ∙ ap (λ bs. q a ∷ bs) later

count_same : (p q : ℕ → Bool) (a n bound : ℕ) → a + n ≤ bound → ((k : ℕ) → k < bound → p k ≡ q k)
    → count_by p (range_with_len a n) ≡ count_by q (range_with_len a n)
count_same p q a n bound fits same =
    let all = range_with_len a n in
    sym (ones-mask_l p all) ∙ ap (λ bs. count_ones (mask_l bs)) (map_same p q a n bound fits same) ∙ ones-mask_l q all

-- ---- the inputs of a term
none_mentioned : (t : Term) → (n : ℕ) → mentions n t ≡ false → bit n 0 ≡ mentions n t
none_mentioned t n none = ap (λ b. nat_eq b 1) (bit_at-zero n) ∙ sym none

set_is : (t : Term) → term_inputs_below 64 t ≡ true → IsInputSet t (input_set t)
set_is (Const b) below = record { exact = λ n within. none_mentioned (Const b) n refl }
set_is (Input n) below = input_set_one n below
set_is (Not t) below = let inner = set_is t below in record { exact = inner.exact }
set_is (And t u) below = let two = and_parts (term_inputs_below 64 t) (term_inputs_below 64 u) below in input_set_and
    t u (input_set t) (input_set u) (set_is t two.0) (set_is u two.1)
set_is (Or t u) below = let two = and_parts (term_inputs_below 64 t) (term_inputs_below 64 u) below in input_set_or t
    u (input_set t) (input_set u) (set_is t two.0) (set_is u two.1)

set_below : (t : Term) → input_set t < 2 ^ 64
set_below (Const b) = omega arith
set_below (Input n) = mod-lt (1 * 2 ^ n) (omega arith)
set_below (Not t) = set_below t
set_below (And t u) = or_lt 64 (input_set t) (input_set u) (set_below t) (set_below u)
set_below (Or t u) = or_lt 64 (input_set t) (input_set u) (set_below t) (set_below u)

-- the set holds the inputs of the terms
pub record IsHeld (terms : List Term) (held : ℕ) : Type 0 where
  pub below : held < 2 ^ 64
  pub bits : (n : ℕ) → n < 64 → bit n held ≡ mentioned n terms

none_held : IsHeld [] 0
none_held = record { below = omega arith; bits = λ n within. ap (λ b. nat_eq b 1) (bit_at-zero n) }

max_is_one : (a b : ℕ) → a < 2 → b < 2 → nat_eq (max a b) 1 ≡ (nat_eq b 1 || nat_eq a 1)
max_is_one a b p q = grind (arith, nat_tests)

or_bit : (n a b : ℕ) → bit n (bit_or a b) ≡ (bit n b || bit n a)
or_bit n a b = ap (λ x. nat_eq x 1) (bit_at_or a b n)
    ∙ max_is_one (bit_at a n) (bit_at b n) (bit_at-lt a n) (bit_at-lt b n)

one_held : (terms : List Term) (held : ℕ) (t : Term) → IsHeld terms held → term_inputs_below 64 t ≡ true
    → IsHeld (t ∷ terms) (bit_or held (input_set t))
one_held terms held t so_far below =
    let set = set_is t below in
    record {
      below = or_lt 64 held (input_set t) so_far.below (set_below t);
      bits = λ n within. or_bit n held (input_set t) ∙ ap (λ b. b || bit n held) (set.exact n within)
          ∙ ap (λ b. mentions n t || b) (so_far.bits n within);
    }

held_count : (terms : List Term) (held : ℕ) → IsHeld terms held → count_ones held ≡ distinct_inputs terms
unfolding distinct_inputs
held_count terms held is =
    ones_by_bits 64 held is.below ∙ count_same (λ k. bit k held) (λ k. mentioned k terms) 0 64 64 (omega arith) is.bits

-- ---- the first wide place
abbrev is_wide : Place → Bool
is_wide p = nat_lt 10 (distinct_inputs p.terms)

abbrev first_in : List Place → Option Span
first_in places = option_map (λ (p : Place). p.span) (find is_wide places)

first_of_one : (span : Span) (terms : List Term) (n : ℕ) → n ≡ distinct_inputs terms
    → (if nat_lt 10 n then Some span else None) ≡ first_in (record { span = span; terms = terms } ∷ [])
first_of_one span terms n is =
    ap (λ k. if nat_lt 10 k then Some span else None) is
    ∙ elim (nat_lt 10 (distinct_inputs terms)) as (λ b. (if b then Some span else None) ≡ option_map
    (λ (p : Place). p.span) (cond b (Some (record { span = span; terms = terms })) None)) [ true ↦ refl | false ↦ refl ]

first_of_either : (o p : Option Place) → or_else (option_map (λ (p : Place). p.span) o)
    (option_map (λ (p : Place). p.span) p) ≡ option_map (λ (p : Place). p.span) (option_or o p)
first_of_either None p = refl
first_of_either (Some x) p = refl

first_in-append : (xs ys : List Place) → or_else (first_in xs) (first_in ys) ≡ first_in (xs ++ ys)
first_in-append xs ys = first_of_either (find is_wide xs) (find is_wide ys)
    ∙ ap (option_map (λ (p : Place). p.span)) (sym (find-append is_wide xs ys))

both_first : (a b : Option Span) (xs ys : List Place) → a ≡ first_in xs → b ≡ first_in ys
    → or_else a b ≡ first_in (xs ++ ys)
both_first a b xs ys p q = ap (λ o. or_else o b) p ∙ ap (or_else (first_in xs)) q ∙ first_in-append xs ys

wide_in : (e : Tree) (holds : List Term) (held : ℕ) → IsHeld holds held → inputs_below 64 e ≡ true
    → first_wide held e ≡ first_in (places_in holds e)
wide_in (Empty at) holds held is below = refl
wide_in (Terminal at p t) holds held is below = first_of_one at.span (t ∷ holds)
    (count_ones (bit_or held (input_set t))) (held_count (t ∷ holds) (bit_or held (input_set t))
    (one_held holds held t is below))
wide_in (Action at a) holds held is below = refl
wide_in (Seq at e f) holds held is below =
    let two = and_parts (inputs_below 64 e) (inputs_below 64 f) below in
    both_first (first_wide held e) (first_wide held f) (places_in holds e) (places_in holds f)
    (wide_in e holds held is two.0) (wide_in f holds held is two.1)
wide_in (Choice at e f) holds held is below =
    let two = and_parts (inputs_below 64 e) (inputs_below 64 f) below in
    both_first (first_wide held e) (first_wide held f) (places_in holds e) (places_in holds f)
    (wide_in e holds held is two.0) (wide_in f holds held is two.1)
wide_in (Star at e) holds held is below = wide_in e holds held is below
wide_in (Hold at t e) holds held is below =
    let two = and_parts (term_inputs_below 64 t) (inputs_below 64 e) below in
    wide_in e (t ∷ holds) (bit_or held (input_set t)) (one_held holds held t is two.0) two.1
wide_in (Scope at s e x h) holds held is below =
    let two = and_parts (inputs_below 64 e) _ below in let rest = and_parts (inputs_below 64 x) (inputs_below 64 h)
    two.1 in
    both_first (first_wide held e) (or_else (first_wide held x) (first_wide held h)) (places_in holds e)
    (places_in holds x ++ places_in holds h) (wide_in e holds held is two.0)
    (both_first (first_wide held x) (first_wide held h) (places_in holds x) (places_in holds h)
    (wide_in x holds held is rest.0) (wide_in h holds held is rest.1))

-- what the code looks for is the first place with too many inputs
pub wide : (e : Tree) → inputs_below 64 e ≡ true → first_wide 0 e ≡ first_too_wide e
wide e below = wide_in e [] 0 none_held below
