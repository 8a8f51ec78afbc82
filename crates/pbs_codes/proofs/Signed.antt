-- The signatures by the first edges and one more.
use Rattle.std.proofs.Common.{◌≡◌, ℕ, ◌+◌, ◌<◌, inl, inr, Bool, true, false, ◌||◌, List, [], ◌∷◌, ◌++◌}
use Rattle.std.proofs.Common.{length, get_or, set, take, refl, sym, ◌∙◌, ap, subst, arith, append_assoc}
use Rattle.std.specs.Prelude.{nat_eq, if◌then◌else◌}
use Rattle.std.proofs.lemmas.Bool.{cases_eq, eq-eqb, ne_eqb}
use Rattle.std.proofs.Math.Bool.{or-false}
use Rattle.std.proofs.lemmas.List.{get_or-set_same, get_or-set_other, take_more, append-nil}
use Rattle.std.proofs.lemmas.List.{length-set}
use Rattle.std.proofs.lemmas.List.Folds.{list_any-append}
use Rattle.pbs_edges.specs.declared.edge.Edge.{Edge}
use Rattle.pbs_codes.specs.inner.Signatures.{is_start, start_number, sources, signature, AreSignatures}

pub is_start_more : (starts : List ℕ) (i s p : ℕ) → i < length starts → s ≡ get_or starts i s
    → is_start (take (i + 1) starts) p ≡ (is_start (take i starts) p || nat_eq s p)
is_start_more starts i s p l e =
    ap (λ xs. is_start xs p) (take_more starts i s l ∙ ap (λ x. take i starts ++ x ∷ []) (sym e))
    ∙ (list_any-append (λ q. nat_eq q p) (take i starts) (s ∷ [])
    ∙ ap (λ b. is_start (take i starts) p || b) (or-false (nat_eq s p)))

or_true : (b : Bool) → (b || true) ≡ true
or_true true = refl
or_true false = refl

pub flag_more : (flags : List Bool) (starts : List ℕ) (places i s : ℕ) → length flags ≡ places → i < length starts
    → s ≡ get_or starts i s → s < length flags
    → ((p : ℕ) → p < places → get_or flags p false ≡ is_start (take i starts) p)
    → (p : ℕ) → p < places → get_or (set flags s true) p false ≡ is_start (take (i + 1) starts) p
flag_more flags starts places i s size l e within old p less = elim (cases_eq p s) [
  | inl same ↦
      let here : nat_eq s p ≡ true = eq-eqb s p (sym same) in
      subst (λ q. get_or (set flags s true) q false ≡ true) (sym same) (get_or-set_same flags s true false within)
      ∙ sym (is_start_more starts i s p l e ∙ (ap (λ b. is_start (take i starts) p || b) here
      ∙ or_true (is_start (take i starts) p)))
  | inr differ ↦
      let other : nat_eq s p ≡ false = ne_eqb s p (λ x. differ (sym x)) in
      get_or-set_other flags s p true false differ ∙ (old p less
      ∙ sym (is_start_more starts i s p l e ∙ (ap (λ b. is_start (take i starts) p || b) other
      ∙ or-false (is_start (take i starts) p))))
]

pub sources-append : (xs ys : List Edge) (p : ℕ) → sources (xs ++ ys) p ≡ sources xs p ++ sources ys p
sources-append [] ys p = refl
sources-append (d ∷ xs) ys p =
    let own : List ℕ = if nat_eq d.to p then d.from ∷ (d.node ∷ []) else [] in
    ap (λ zs. own ++ zs) (sources-append xs ys p) ∙ sym (append_assoc own (sources xs p) (sources ys p))

-- one more edge adds to the signature of the place that it leads to
pub signature_more : (starts : List ℕ) (edges : List Edge) (i p : ℕ) (d : Edge) → i < length edges
    → d ≡ get_or edges i d → signature starts (take (i + 1) edges) p
    ≡ signature starts (take i edges) p ++ (if nat_eq d.to p then d.from ∷ (d.node ∷ []) else [])
signature_more starts edges i p d l e =
    let own : List ℕ = if nat_eq d.to p then d.from ∷ (d.node ∷ []) else [] in
    let first : List ℕ = start_number (is_start starts p) in
    let more : sources (take (i + 1) edges) p ≡ sources (take i edges) p ++ own =
    ap (λ xs. sources xs p) (take_more edges i d l ∙ ap (λ x. take i edges ++ x ∷ []) (sym e))
    ∙ (sources-append (take i edges) (d ∷ []) p ∙ ap (λ xs. sources (take i edges) p ++ xs) (append-nil own)) in
    ap (λ xs. first ++ xs) more ∙ sym (append_assoc first (sources (take i edges) p) own)

pub signatures_more : (starts : List ℕ) (edges : List Edge) (places i : ℕ) (all : List (List ℕ)) (d : Edge)
    → i < length edges → d ≡ get_or edges i d → d.to < places → AreSignatures starts (take i edges) places all
    → AreSignatures starts (take (i + 1) edges) places
    (set all d.to (get_or all d.to [] ++ d.from ∷ (d.node ∷ [])))
signatures_more starts edges places i all d l e within old =
    let pushed : List ℕ = get_or all d.to [] ++ d.from ∷ (d.node ∷ []) in
    record {
      size = length-set all d.to pushed ∙ old.size;
      each = λ p less. elim (cases_eq p d.to) [
        | inl same ↦
            let here : nat_eq d.to p ≡ true = eq-eqb d.to p (sym same) in
            let at : get_or (set all d.to pushed) p [] ≡ pushed =
            subst (λ q. get_or (set all d.to pushed) q [] ≡ pushed) (sym same)
            (get_or-set_same all d.to pushed [] (omega (arith, old.size))) in
            let was : get_or all d.to [] ≡ signature starts (take i edges) p =
            ap (λ q. get_or all q []) (sym same) ∙ old.each p less in
            at ∙ (ap (λ xs. xs ++ d.from ∷ (d.node ∷ [])) was
            ∙ sym (signature_more starts edges i p d l e
            ∙ ap (λ b. signature starts (take i edges) p ++ (if b then d.from ∷ (d.node ∷ []) else [])) here))
        | inr differ ↦
            let other : nat_eq d.to p ≡ false = ne_eqb d.to p (λ x. differ (sym x)) in
            get_or-set_other all d.to p pushed [] differ ∙ (old.each p less
            ∙ sym (signature_more starts edges i p d l e
            ∙ (ap (λ b. signature starts (take i edges) p ++ (if b then d.from ∷ (d.node ∷ []) else [])) other
            ∙ append-nil (signature starts (take i edges) p))))
      ];
    }
