-- The codes of places that each have a register of their own.
use Rattle.std.proofs.Common.{◌≡◌, ℕ, zero, suc, ◌<◌, Bool, true, false, List, [], ◌∷◌, length, Some, refl}
use Rattle.std.proofs.Common.{sym, ap, subst, ◌∙◌, arith, inl, inr, nat_eq}
use Rattle.std.specs.Prelude.{◌&&◌, ◌||◌, slice_get}
use Rattle.std.proofs.lemmas.Bool.{cases_lt, eqb-true}
use Rattle.std.proofs.lemmas.Bool.Decides.{nat_tests}
use Rattle.pbs_base.specs.declared.entry.Entry.{Entry}
use Rattle.pbs_ast.specs.Trees.{Tree}
use Rattle.pbs_ast.specs.Sound.{place_count}
use Rattle.net_core.specs.declared.codes.Code.{Code}
use Rattle.net_core.specs.Rows.{Row}
use Rattle.net_core.specs.Circuits.{Circuit}
use Rattle.net_core.specs.Runs.{next_of}
use Rattle.net_core.proofs.Pushed.{length_pushed, get_in_front, get_at_end, get_pushed}
use Rattle.net_encode.specs.Codes.{code_has_one, tells}
use Rattle.net_encode.specs.Encodings.{IsOwnMap}
use Rattle.frag_compose.specs.Composes.{own_code, own_codes}
use Rattle.pbs_realize.specs.Codes.{ShowsCodes, row_stands}

pub own_length : (n : ℕ) → length (own_codes n) ≡ n
own_length zero = refl
own_length (suc n) = let longer = length_pushed (own_codes n) (own_code n) in let same = own_length n in omega arith

own_at : (n p : ℕ) → p < n → slice_get (own_codes n) p ≡ Some (own_code p)
own_at zero p less = absurd (omega arith)
own_at (suc n) p less = elim (cases_lt p n) [
  | inl low ↦ get_in_front (own_codes n) (own_code n ∷ []) p (own_code p) (own_at n p low)
  | inr high ↦
      let is : n ≡ p = omega arith in
      let end : slice_get (own_codes (suc n)) n ≡ Some (own_code n) =
      subst (λ q. slice_get (own_codes (suc n)) q ≡ Some (own_code n)) (own_length n)
      (get_at_end (own_codes n) (own_code n)) in
      subst (λ q. slice_get (own_codes (suc n)) q ≡ Some (own_code q)) is end
]

own_is : (n p : ℕ) (c : Code) → slice_get (own_codes n) p ≡ Some c → (p < n) × (c ≡ own_code p)
own_is zero p c e = absurd cc
own_is (suc n) p c e = elim (get_pushed (own_codes n) (own_code n) p c e) [
  | inl before ↦ let found = own_is n p c before in (let low = found.0 in omega arith, found.1)
  | inr (end, same) ↦
      let is : p ≡ n = end ∙ own_length n in
      (omega (arith, is), same ∙ ap own_code (sym is))
]

pub own_map : (n : ℕ) → IsOwnMap (own_codes n)
own_map n = record { each = λ p c e. (own_is n p c e).1 }

and_true : (b : Bool) → b && true ≡ b
and_true true = refl
and_true false = refl

same_number : (r : ℕ) → nat_eq r r ≡ true
same_number r = grind (arith, nat_tests)

has_own : (r : ℕ) → code_has_one r (own_code r) ≡ true
has_own r = ap (λ b. (b && true) || false) (same_number r)

has_only : (p r : ℕ) → code_has_one r (own_code p) ≡ true → p ≡ r
has_only p r e = eqb-true p r (by (nat_eq p r) e)
  where
    by : (b : Bool) → (b && true) || false ≡ true → b ≡ true
    by true e = refl
    by false e = absurd cc

-- where each register tells whether the place of its number stands, the registers tell the places by these codes
pub shows_own : (net : Circuit) (main : Tree) (v : List Entry) (rows : ℕ → Row) (k : ℕ)
    → ((p : ℕ) → p < place_count main → next_of net (rows k) p ≡ row_stands main v k p)
    → ShowsCodes net main (place_count main) (own_codes (place_count main)) v rows k
shows_own net main v rows k tells_place = record {
  told = λ p code at.
      let is = own_is (place_count main) p code at in
      ap (tells (next_of net (rows k))) is.1 ∙ (and_true (next_of net (rows k) p) ∙ tells_place p is.0);
  due = λ r less. record {
    some = λ on. (r, own_code r, own_at (place_count main) r less, sym (tells_place r less) ∙ on, has_own r);
    one = λ p c at stood one.
        let is = own_is (place_count main) p c at in
        let same = has_only p r (subst (λ x. code_has_one r x ≡ true) is.1 one) in
        subst (λ q. next_of net (rows k) q ≡ true) same (tells_place p is.0 ∙ stood);
  };
}
