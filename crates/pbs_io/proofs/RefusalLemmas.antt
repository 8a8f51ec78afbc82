-- The pieces of a refusal's line.
use Rattle.std.proofs.Common.{◌≡◌, ℕ, List, [], ◌∷◌, codes, decimal, refl}
use Rattle.std.specs.List.{concat}
use Rattle.pbs_io.specs.Refusal.{refusal_line, subject_word}
use Rattle.pbs_base.specs.declared.refusal.Refusal.{Refusal}

pub line_of : (refusal : Refusal) (subject rule start end : List ℕ) → subject ≡ subject_word refusal.subject
    → rule ≡ decimal refusal.rule → start ≡ decimal refusal.span.start → end ≡ decimal refusal.span.end
    → concat (subject ∷ codes " refused rule " ∷ rule ∷ codes " at " ∷ start ∷ codes ".." ∷ end ∷ codes "\n" ∷ []) ≡
    refusal_line refusal
line_of refusal subject rule start end a b c d = rw (a, b, c, d) refl
