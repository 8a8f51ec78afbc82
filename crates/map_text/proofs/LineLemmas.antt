-- The lines of a map where no code is left.
use Rattle.std.proofs.Common.{◌≡◌, ◌≤◌, ℕ, zero, suc, List, [], ◌∷◌, ◌++◌, length, refl, sym, ap, ◌∙◌, arith, drop}
use Rattle.std.proofs.lemmas.List.{append-nil}
use Rattle.pbs_base.specs.declared.refusal.Span.{Span}
use Rattle.net_core.specs.declared.codes.Code.{Code}
use Rattle.map_text.specs.Maps.{place_lines}

none_left : {X : Type 0} (xs : List X) (n : ℕ) → length xs ≤ n → drop n xs ≡ []
none_left [] zero e = refl
none_left [] (suc n) e = refl
none_left (x ∷ xs) zero e = absurd (omega arith)
none_left (x ∷ xs) (suc n) e = none_left xs n (omega arith)

no_lines : (p : ℕ) (spans : List Span) → place_lines p spans [] ≡ []
no_lines p [] = refl
no_lines p (span ∷ spans) = refl

pub lines_end : (text whole : List ℕ) (p : ℕ) (spans : List Span) (place_codes : List Code)
    → length place_codes ≤ p → text ++ place_lines p spans (drop p place_codes) ≡ whole → text ≡ whole
lines_end text whole p spans place_codes none so_far =
    sym (append-nil text)
    ∙ (ap (λ more. text ++ more) (sym (ap (place_lines p spans) (none_left place_codes p none) ∙ no_lines p spans))
    ∙ so_far)
