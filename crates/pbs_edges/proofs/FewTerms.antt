-- Few or many different effective terms, by the table of them.
use Rattle.std.proofs.Common.{◌≡◌, ℕ, zero, suc, ◌<◌, ◌≤◌, List, [], ◌∷◌, length, get_or, Some, inl, inr}
use Rattle.std.proofs.Common.{refl, sym, ◌∙◌, ap, subst, arith, IsTrue}
use Rattle.std.specs.Prelude.{nat_lt, slice_get, Contains, MatchBool}
use Rattle.std.proofs.lemmas.Option.{same_Some}
use Rattle.std.proofs.lemmas.Bool.{cases_lt, lt-ltb, le-ltb}
use Rattle.bool_terms.specs.Terms.{Term, holds, term_of, term_inputs_below}
use Rattle.bool_terms.specs.declared.Term as declared
use Rattle.pbs_ast.specs.Trees.{Tree, fits}
use Rattle.pbs_ast.specs.Sound.{place_count, IsCounted}
use Rattle.pbs_edges.specs.Effective.{effective_terms, effective_term, all_true}
use Rattle.pbs_edges.specs.Codes.{code_all, AllMean, AreCodes, AreNumbers, IsTermTable}
use Rattle.pbs_edges.specs.Found.{HasFewTerms, HasManyTerms}
use Rattle.pbs_edges.specs.declared.terms.TermTable.{TermTable}
use Rattle.pbs_edges.proofs.Codes.{same_terms}
use Rattle.pbs_edges.proofs.Tables.{meant}
use Rattle.pbs_edges.proofs.Effective.{length-effective, fits_by_effective_term}
use Rattle.pbs_edges.proofs.Numbering.{is_numbered}

-- Many

-- the terms that the words are written for
abbrev terms_of_words : (tss : List (List Term)) (ws : List (List ℕ)) → AreCodes [] tss ws → List (List Term)
terms_of_words tss [] h = []
terms_of_words tss (w ∷ ws) h = (h.0).0 ∷ terms_of_words tss ws h.1

length-terms : (tss : List (List Term)) (ws : List (List ℕ)) (h : AreCodes [] tss ws)
    → length (terms_of_words tss ws h) ≡ length ws
length-terms tss [] h = refl
length-terms tss (w ∷ ws) h = ap suc (length-terms tss ws h.1)

terms-there : (tss : List (List Term)) (ws : List (List ℕ)) (h : AreCodes [] tss ws) (ts : List Term)
    → Contains (terms_of_words tss ws h) ts → Contains tss ts
terms-there tss [] h ts c = let l = c.1 in absurd (omega arith)
terms-there tss (w ∷ ws) h ts (zero, l, e) = subst (λ us. Contains tss us) e (h.0).1
terms-there tss (w ∷ ws) h ts (suc k, l, e) = terms-there tss ws h.1 ts (k, omega arith, e)

word-at : (tss : List (List Term)) (ws : List (List ℕ)) (h : AreCodes [] tss ws) (i : ℕ) (ts : List Term)
    → slice_get (terms_of_words tss ws h) i ≡ Some ts → slice_get ws i ≡ Some (code_all ts)
word-at tss [] h i ts e = absurd (cc)
word-at tss (w ∷ ws) h zero ts e = ap Some ((h.0).2 ∙ ap (λ us. code_all us) (same_Some (h.0).0 ts e))
word-at tss (w ∷ ws) h (suc i) ts e = word-at tss ws h.1 i ts e

pub many_terms : (main : Tree) (t : TermTable) → IsTermTable main t → 256 < length t.codes → HasManyTerms main 256
many_terms main t h many = record {
  some = terms_of_words (effective_terms main) t.codes h.only;
  many = let e = length-terms (effective_terms main) t.codes h.only in omega arith;
  effective = λ ts c. terms-there (effective_terms main) t.codes h.only ts c;
  different = λ i j ts a b. (h.different).once i j (code_all ts)
      (word-at (effective_terms main) t.codes h.only i ts a) (word-at (effective_terms main) t.codes h.only j ts b);
}

-- Few

abbrev meanings : (ws : List (List ℕ)) (us : List declared.Term) → AllMean ws us → List (List Term)
meanings [] us h = []
meanings (w ∷ ws) [] h = absurd h
meanings (w ∷ ws) (u ∷ us) h = (h.0).terms ∷ meanings ws us h.1

length-meanings : (ws : List (List ℕ)) (us : List declared.Term) (h : AllMean ws us)
    → length (meanings ws us h) ≡ length ws
length-meanings [] us h = refl
length-meanings (w ∷ ws) [] h = absurd h
length-meanings (w ∷ ws) (u ∷ us) h = ap suc (length-meanings ws us h.1)

meaning-there : (ws : List (List ℕ)) (us : List declared.Term) (h : AllMean ws us) (n : ℕ) (ts : List Term)
    → slice_get ws n ≡ Some (code_all ts) → Contains (meanings ws us h) ts
meaning-there [] us h n ts e = absurd (cc)
meaning-there (w ∷ ws) [] h n ts e = absurd h
meaning-there (w ∷ ws) (u ∷ us) h zero ts e =
    (zero, omega arith, same_terms (h.0).terms ts (sym (h.0).code ∙ same_Some w (code_all ts) e))
meaning-there (w ∷ ws) (u ∷ us) h (suc n) ts e =
    let r = meaning-there ws us h.1 n ts e in (suc r.0, let l = r.1 in omega arith, r.2)

number-at : (ws : List (List ℕ)) (ns : List ℕ) (tss : List (List Term)) (p : ℕ) → AreNumbers ws [] ns tss
    → p < length tss → slice_get ws (get_or ns p 0) ≡ Some (code_all (get_or tss p []))
number-at ws [] [] p h l = absurd (omega arith)
number-at ws [] (ts ∷ tss) p h l = absurd h
number-at ws (n ∷ ns) [] p h l = absurd h
number-at ws (n ∷ ns) (ts ∷ tss) zero h l = h.0
number-at ws (n ∷ ns) (ts ∷ tss) (suc p) h l = number-at ws ns tss p h.1 (omega arith)

pub few_terms : (main : Tree) (t : TermTable) → IsTermTable main t → length t.codes ≤ 256 → HasFewTerms main 256
few_terms main t h few = record {
  some = meanings t.codes t.terms h.mean;
  few = let e = length-meanings t.codes t.terms h.mean in omega arith;
  all = λ p l.
      let e : length (effective_terms main) ≡ place_count main = length-effective main in
      meaning-there t.codes t.terms h.mean (get_or t.of_place p 0) (effective_term main p)
      (number-at t.codes t.of_place (effective_terms main) p (h.all few) (omega arith));
}

pub few_or_many : (main : Tree) (t : TermTable) (n : ℕ) → IsTermTable main t → n ≡ length t.codes
    → MatchBool (nat_lt 256 n) (HasManyTerms main 256) (HasFewTerms main 256)
few_or_many main t n h e = elim (cases_lt 256 n) [
  | inl l ↦ subst (λ b. MatchBool b (HasManyTerms main 256) (HasFewTerms main 256)) (sym (lt-ltb 256 n l))
      (many_terms main t h (omega arith))
  | inr g ↦ subst (λ b. MatchBool b (HasManyTerms main 256) (HasFewTerms main 256)) (sym (le-ltb 256 n g))
      (few_terms main t h (omega arith))
]

-- For each place the table tells a term

length-numbers : (ws : List (List ℕ)) (ns : List ℕ) (tss : List (List Term)) → AreNumbers ws [] ns tss
    → length ns ≡ length tss
length-numbers ws [] [] h = refl
length-numbers ws [] (ts ∷ tss) h = absurd h
length-numbers ws (n ∷ ns) [] h = absurd h
length-numbers ws (n ∷ ns) (ts ∷ tss) h = ap suc (length-numbers ws ns tss h.1)

pub numbers_of_places : (main : Tree) (t : TermTable) → IsTermTable main t → length t.codes ≤ 256
    → length t.of_place ≡ place_count main
numbers_of_places main t h few =
    length-numbers t.codes t.of_place (effective_terms main) (h.all few) ∙ length-effective main

-- the term of a place is true where its effective term is
pub record TellsTerm (main : Tree) (p : ℕ) (t : declared.Term) : Type 0 where
  pub truth : (v : ℕ) → holds (term_of t) v ≡ fits p main v
  pub inputs : IsTrue (term_inputs_below 64 (term_of t))

pub term_of_place : (main : Tree) (t : TermTable) → IsCounted main → IsTermTable main t → length t.codes ≤ 256
    → (p : ℕ) → p < place_count main
    → (u : declared.Term) × (slice_get t.terms (get_or t.of_place p 0) ≡ Some u) × TellsTerm main p u
term_of_place main t counted h few p l =
    let e : length (effective_terms main) ≡ place_count main = length-effective main in
    let w = number-at t.codes t.of_place (effective_terms main) p (h.all few) (omega arith) in
    let m = meant t.codes t.terms (get_or t.of_place p 0) (code_all (effective_term main p)) h.mean w in
    let same : (m.2).terms ≡ effective_term main p =
    same_terms (m.2).terms (effective_term main p) (sym (m.2).code) in (
      m.0,
      m.1,
      record {
        truth = λ v. (m.2).truth v ∙ ap (λ ts. all_true ts v) same
            ∙ sym (fits_by_effective_term main p v (is_numbered main counted) l);
        inputs = (m.2).inputs;
      },
    )
