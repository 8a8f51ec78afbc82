-- Names that stand twice, as far as the list's end was looked at.
use Rattle.std.proofs.Common.{◌≡◌, ℕ, ◌==◌, Bool, true, false, cond, List, [], ◌∷◌, ◌++◌, Option, Some, None, refl, sym}
use Rattle.std.proofs.Common.{ap, ◌∙◌, append_assoc}
use Rattle.std.specs.Prelude.{if◌then◌else◌}
use Rattle.std.specs.Cmp.Lexicographic.{pointwise, same_text}
use Rattle.pbs_base.specs.declared.refusal.Span.{Span}
use Rattle.pbs_check.specs.declared.named.Named.{Named}
use Rattle.pbs_check.specs.Least.{least_of}
use Rattle.pbs_check.specs.inner.Twices.{first_place, later_of, first_twice}

pub record IsTwiceTo (all left : List Named) (place : List ℕ → Option Span) (found : Option Span) : Type 0 where
  pub rest : List Named
  pub whole : left ++ rest ≡ all
  pub places : (name : List ℕ) → place name ≡ first_place name rest
  pub is : found ≡ first_twice rest

-- the table after one name more
place_more : (x : Named) (rest : List Named) (first : Span) (known : Option Span) (name : List ℕ)
    → known ≡ first_place x.name rest → Some first ≡ least_of (Some x.span) known
    → (b : Bool) → pointwise ◌==◌ x.name name ≡ b → cond b (Some first) (first_place name rest) ≡ least_of
    (if b then Some x.span else None) (first_place name rest)
place_more x rest first known name knows is true same =
    let e : x.name ≡ name = same_text x.name name (sym same) in is
    ∙ ap (least_of (Some x.span)) (knows ∙ ap (λ n. first_place n rest) e)
place_more x rest first known name knows is false other = refl

pub twice_more : (all left old_left : List Named) (x : Named) (old new : List ℕ
    → Option Span) (known : Option Span) (first : Span) (old_found found : Option Span)
    → old_left ≡ left ++ x ∷ [] → IsTwiceTo all old_left old old_found → known ≡ old x.name
    → Some first ≡ least_of (Some x.span) known
    → ((name : List ℕ) → new name ≡ cond (pointwise ◌==◌ x.name name) (Some first) (old name))
    → found ≡ least_of (later_of known x.span) old_found → IsTwiceTo all left new found
twice_more all left old_left x old new known first old_found found split so_far knows is updates finds =
    let rest = so_far.rest in let known_is : known ≡ first_place x.name rest = knows ∙ so_far.places x.name in
    record {
      rest = x ∷ rest;
      whole = sym (append_assoc left (x ∷ []) rest) ∙ ap (λ xs. xs ++ rest) (sym split) ∙ so_far.whole;
      places = λ name. updates name ∙ ap (λ o. cond (pointwise ◌==◌ x.name name) (Some first) o) (so_far.places name)
          ∙ place_more x rest first known name known_is is (pointwise ◌==◌ x.name name) refl;
      is = finds ∙ ap (λ o. least_of (later_of o x.span) old_found) known_is
          ∙ ap (least_of (later_of (first_place x.name rest) x.span)) so_far.is;
    }
