-- How the table of effective terms grows.
use Rattle.std.proofs.Common.{◌≡◌, ℕ, zero, suc, ◌+◌, ◌<◌, Bool, true, false, ◌&&◌, ◌⊎◌, inl, inr, List, [], ◌∷◌, ◌++◌}
use Rattle.std.proofs.Common.{length}
use Rattle.std.proofs.Common.{Some, refl, sym, ◌∙◌, ap, subst, arith, append_assoc, length-append, IsTrue}
use Rattle.std.specs.Prelude.{slice_get, Contains}
use Rattle.std.proofs.lemmas.Bool.{and_from}
use Rattle.std.proofs.lemmas.Option.{same_Some}
use Rattle.std.proofs.lemmas.List.{append-nil}
use Rattle.std.proofs.lemmas.List.Elements.{Contains-append_left, Contains-append_right}
use Rattle.bool_terms.specs.Terms.{Term, Const, And, holds, term_of, term_inputs_below}
use Rattle.bool_terms.specs.declared.Term as declared
use Rattle.pbs_edges.specs.Effective.{all_true, under_hold}
use Rattle.pbs_edges.specs.Codes.{code, code_all, Means, AllMean, AreCodes, AreNumbers, Adds}
use Rattle.pbs_edges.specs.declared.terms.TermTable.{TermTable}
use Rattle.pbs_edges.proofs.Codes.{code_all-append, all_true-append}

-- Means

and_true : (b : Bool) → b && true ≡ b
and_true true = refl
and_true false = refl

-- one more term
pub means_more : (w x : List ℕ) (t u both : declared.Term) → Means w t → x ≡ w ++ code (term_of u)
    → term_of both ≡ And (term_of t) (term_of u) → IsTrue (term_inputs_below 64 (term_of u)) → Means x both
means_more w x t u both m e f inputs = record {
  terms = m.terms ++ term_of u ∷ [];
  code = e ∙ ap (λ xs. xs ++ code (term_of u)) m.code
      ∙ ap (λ xs. code_all m.terms ++ xs) (sym (append-nil (code (term_of u))))
      ∙ sym (code_all-append m.terms (term_of u ∷ []));
  truth = λ v. ap (λ s. holds s v) f ∙ ap (λ b. b && holds (term_of u) v) (m.truth v)
      ∙ ap (λ b. all_true m.terms v && b) (sym (and_true (holds (term_of u) v)))
      ∙ sym (all_true-append m.terms (term_of u ∷ []) v);
  inputs = subst (λ s. IsTrue (term_inputs_below 64 s)) (sym f)
      (and_from (term_inputs_below 64 (term_of t)) (term_inputs_below 64 (term_of u)) m.inputs inputs);
}

pub all_mean-push : (ws : List (List ℕ)) (ts : List declared.Term) (w : List ℕ) (t : declared.Term) → AllMean ws ts
    → Means w t → AllMean (ws ++ w ∷ []) (ts ++ t ∷ [])
all_mean-push [] [] w t h m = (m, tt)
all_mean-push [] (u ∷ ts) w t h m = absurd h
all_mean-push (x ∷ ws) [] w t h m = absurd h
all_mean-push (x ∷ ws) (u ∷ ts) w t h m = (h.0, all_mean-push ws ts w t h.1 m)

pub meant : (ws : List (List ℕ)) (ts : List declared.Term) (n : ℕ) (w : List ℕ) → AllMean ws ts
    → slice_get ws n ≡ Some w → (t : declared.Term) × (slice_get ts n ≡ Some t) × Means w t
meant [] ts n w h g = absurd (cc)
meant (x ∷ ws) [] n w h g = absurd h
meant (x ∷ ws) (t ∷ ts) zero w h g = (t, refl, subst (λ y. Means y t) (same_Some x w g) h.0)
meant (x ∷ ws) (t ∷ ts) (suc n) w h g = meant ws ts n w h.1 g

-- Words in a list that grows

pub get-append : {A : Type 0} (xs ys : List A) (n : ℕ) (x : A) → slice_get xs n ≡ Some x → slice_get (xs ++ ys) n
    ≡ Some x
get-append [] ys n x h = absurd (cc)
get-append (y ∷ xs) ys zero x h = h
get-append (y ∷ xs) ys (suc n) x h = get-append xs ys n x h

numbers-more : (ws vs : List (List ℕ)) (front : List ℕ) (ns : List ℕ) (tss : List (List Term))
    → AreNumbers ws front ns tss → AreNumbers (ws ++ vs) front ns tss
numbers-more ws vs front [] [] h = tt
numbers-more ws vs front [] (ts ∷ tss) h = h
numbers-more ws vs front (n ∷ ns) [] h = h
numbers-more ws vs front (n ∷ ns) (ts ∷ tss) h =
    (get-append ws vs n (front ++ code_all ts) h.0, numbers-more ws vs front ns tss h.1)

numbers-append : (ws : List (List ℕ)) (front : List ℕ) (ns ms : List ℕ) (tss uss : List (List Term))
    → AreNumbers ws front ns tss → AreNumbers ws front ms uss → AreNumbers ws front (ns ++ ms) (tss ++ uss)
numbers-append ws front [] ms [] uss h g = g
numbers-append ws front [] ms (ts ∷ tss) uss h g = absurd h
numbers-append ws front (n ∷ ns) ms [] uss h g = absurd h
numbers-append ws front (n ∷ ns) ms (ts ∷ tss) uss h g = (h.0, numbers-append ws front ns ms tss uss h.1 g)

codes-left : (front : List ℕ) (tss uss : List (List Term)) (ws : List (List ℕ)) → AreCodes front tss ws
    → AreCodes front (tss ++ uss) ws
codes-left front tss uss [] h = tt
codes-left front tss uss (w ∷ ws) h =
    let f = h.0 in
    ((f.0, Contains-append_left tss uss f.0 f.1, f.2), codes-left front tss uss ws h.1)

codes-right : (front : List ℕ) (tss uss : List (List Term)) (ws : List (List ℕ)) → AreCodes front uss ws
    → AreCodes front (tss ++ uss) ws
codes-right front tss uss [] h = tt
codes-right front tss uss (w ∷ ws) h =
    let f = h.0 in
    ((f.0, Contains-append_right tss uss f.0 f.1, f.2), codes-right front tss uss ws h.1)

codes-append : (front : List ℕ) (tss : List (List Term)) (ws vs : List (List ℕ)) → AreCodes front tss ws
    → AreCodes front tss vs → AreCodes front tss (ws ++ vs)
codes-append front tss [] vs h g = g
codes-append front tss (w ∷ ws) vs h g = (h.0, codes-append front tss ws vs h.1 g)

-- The table

-- no place
pub adds_none : (front : List ℕ) (old : TermTable) → Adds front [] old old
adds_none front old = record {
  words = [];
  numbers = [];
  codes = sym (append-nil old.codes);
  of_place = sym (append-nil old.of_place);
  only = tt;
  all = λ few. tt;
}

-- too many words already
pub adds_full : (front : List ℕ) (tss : List (List Term)) (old : TermTable) → 256 < length old.codes
    → Adds front tss old old
adds_full front tss old many = record {
  words = [];
  numbers = [];
  codes = sym (append-nil old.codes);
  of_place = sym (append-nil old.of_place);
  only = tt;
  all = λ few. absurd (omega arith);
}

-- the places of two parts
pub adds_then : (front : List ℕ) (tss uss : List (List Term)) (a b c : TermTable) → Adds front tss a b
    → Adds front uss b c → Adds front (tss ++ uss) a c
adds_then front tss uss a b c x y = record {
  words = x.words ++ y.words;
  numbers = x.numbers ++ y.numbers;
  codes = y.codes ∙ ap (λ ws. ws ++ y.words) x.codes ∙ append_assoc a.codes x.words y.words;
  of_place = y.of_place ∙ ap (λ ns. ns ++ y.numbers) x.of_place ∙ append_assoc a.of_place x.numbers y.numbers;
  only = codes-append front (tss ++ uss) x.words y.words (codes-left front tss uss x.words x.only)
      (codes-right front tss uss y.words y.only);
  all = λ few.
      let size : length c.codes ≡ length b.codes + length y.words =
      ap (λ ws. length ws) y.codes ∙ length-append b.codes y.words in
      let earlier : AreNumbers c.codes front x.numbers tss =
      subst (λ ws. AreNumbers ws front x.numbers tss) (sym y.codes)
      (numbers-more b.codes y.words front x.numbers tss (x.all (omega arith))) in
      numbers-append c.codes front x.numbers y.numbers tss uss earlier (y.all few);
}

-- the places of a hold's body
hold-contains : (t : Term) (tss : List (List Term)) (ts : List Term) → Contains tss ts
    → Contains (under_hold t tss) (t ∷ ts)
hold-contains t [] ts c = absurd (let h = c.1 in omega arith)
hold-contains t (us ∷ tss) ts (zero, low, is) = (zero, omega arith, ap (λ xs. t ∷ xs) is)
hold-contains t (us ∷ tss) ts (suc k, low, is) =
    let r = hold-contains t tss ts (k, omega arith, is) in (suc r.0, let l = r.1 in omega arith, r.2)

hold-codes : (front : List ℕ) (t : Term) (tss : List (List Term)) (ws : List (List ℕ))
    → AreCodes (front ++ code t) tss ws → AreCodes front (under_hold t tss) ws
hold-codes front t tss [] h = tt
hold-codes front t tss (w ∷ ws) h =
    let f = h.0 in (
      (t ∷ f.0, hold-contains t tss f.0 f.1, f.2 ∙ append_assoc front (code t) (code_all f.0)),
      hold-codes front t tss ws h.1,
    )

hold-numbers : (words : List (List ℕ)) (front : List ℕ) (t : Term) (ns : List ℕ) (tss : List (List Term))
    → AreNumbers words (front ++ code t) ns tss → AreNumbers words front ns (under_hold t tss)
hold-numbers words front t [] [] h = tt
hold-numbers words front t [] (ts ∷ tss) h = h
hold-numbers words front t (n ∷ ns) [] h = h
hold-numbers words front t (n ∷ ns) (ts ∷ tss) h =
    (h.0 ∙ ap Some (append_assoc front (code t) (code_all ts)), hold-numbers words front t ns tss h.1)

pub adds_hold : (front inner : List ℕ) (t : Term) (tss : List (List Term)) (a b : TermTable) → inner ≡ front ++ code t
    → Adds inner tss a b → Adds front (under_hold t tss) a b
adds_hold front inner t tss a b e x = record {
  words = x.words;
  numbers = x.numbers;
  codes = x.codes;
  of_place = x.of_place;
  only = hold-codes front t tss x.words (subst (λ f. AreCodes f tss x.words) e x.only);
  all = λ few. hold-numbers b.codes front t x.numbers tss
      (subst (λ f. AreNumbers b.codes f x.numbers tss) e (x.all few));
}

-- one place
pub adds_place : (front whole : List ℕ) (t : Term) (n : ℕ) (old new : TermTable) → whole ≡ front ++ code t
    → slice_get new.codes n ≡ Some whole
    → ((new.codes ≡ old.codes) ⊎ (new.codes ≡ old.codes ++ whole ∷ []))
    → new.of_place ≡ old.of_place ++ n ∷ [] → Adds front ((t ∷ []) ∷ []) old new
adds_place front whole t n old new e there grown places =
    let word : whole ≡ front ++ code_all (t ∷ []) = e ∙ ap (λ xs. front ++ xs) (sym (append-nil (code t))) in
    let number : slice_get new.codes n ≡ Some (front ++ code_all (t ∷ [])) = there ∙ ap Some word in
    elim grown [
      | inl same ↦ record {
        words = [];
        numbers = n ∷ [];
        codes = same ∙ sym (append-nil old.codes);
        of_place = places;
        only = tt;
        all = λ few. (number, tt);
      }
      | inr more ↦ record {
        words = whole ∷ [];
        numbers = n ∷ [];
        codes = more;
        of_place = places;
        only = ((t ∷ [], (zero, omega arith, refl), word), tt);
        all = λ few. (number, tt);
      }
    ]
