-- What the trace is from a begun row on, at the next byte and at the end of the text.
use Rattle.std.proofs.Common.{◌≡◌, ℕ, ◌+◌, ◌-◌, ◌<◌, ◌≤◌, true, false, nat_eq, List, [], ◌∷◌, ◌++◌, length}
use Rattle.std.proofs.Common.{length-append, append_assoc, append-nil, sym, ap, ◌∙◌, arith}
use Rattle.trace_text.specs.Traces.{Good, Wrong, entry, followed, lines, no_rows, refused, right, row, rows, Rows}
use Rattle.trace_text.specs.Steps.{whole}
use Rattle.trace_text.proofs.LineLemmas.{lines_begun, lines_ended, lines_open}
use Rattle.trace_text.proofs.RowLemmas.{right_open, row_good, row_last, row_long, row_short, row_wrong}

before : (used : ℕ) (b : List ℕ) → length b ≤ used → used - length b + length b ≡ used
before used b h = omega arith

one_more : (b : List ℕ) (c : ℕ) (rest : List ℕ) → b ++ c ∷ rest ≡ (b ++ c ∷ []) ++ rest
one_more b c rest = sym (append_assoc b (c ∷ []) rest)

pub byte_more : (order : List ℕ) (used : ℕ) (b : List ℕ) (c : ℕ) (rest : List ℕ) → length b ≤ used
    → rows order (used - length b) (lines (b ++ c ∷ rest))
    ≡ rows order (used + 1 - length (b ++ c ∷ [])) (lines ((b ++ c ∷ []) ++ rest))
byte_more order used b c rest h =
    let same : used - length b ≡ used + 1 - length (b ++ c ∷ []) = omega (arith, length-append b (c ∷ [])) in
    ap (λ k. rows order k (lines (b ++ c ∷ rest))) same ∙ ap (λ l. rows order (used + 1 - length (b ++ c ∷ []))
    (lines l)) (one_more b c rest)

first_row : (order : List ℕ) (at : ℕ) (text front : List ℕ) (r : _) → (more : List ℕ) → (others : List (List ℕ))
    → lines text ≡ (front ++ more) ∷ others → row order at (front ++ more) ≡ Wrong r → (behind : Rows)
    → rows order at (lines text) ≡ followed (Wrong r) behind
first_row order at text front r more others is wrong behind = ap (rows order at) is ∙ ap
    (λ f. followed f (rows order (at + length (front ++ more)) others)) wrong

pub byte_long : (order : List ℕ) (used : ℕ) (b : List ℕ) (c : ℕ) (rest : List ℕ) (behind : Rows) → length b ≤ used
    → right (length order) b ≡ length b → used ≡ 67108864
    → rows order (used - length b) (lines (b ++ c ∷ rest)) ≡ followed (Wrong (refused 1 67108864 67108865)) behind
byte_long order used b c rest behind h good full =
    let f = lines_begun b c rest (right_open (length order) b good) in
    let at : used - length b + length b ≡ 67108864 = omega arith in
    first_row order (used - length b) (b ++ c ∷ rest) (b ++ c ∷ []) _ f.more f.others f.is
    (ap (row order (used - length b)) (sym (one_more b c f.more)) ∙ row_long order b c f.more (used - length b) good
    at) behind

pub byte_wrong : (order : List ℕ) (used : ℕ) (b : List ℕ) (c : ℕ) (rest : List ℕ) (behind : Rows) → length b ≤ used
    → right (length order) b ≡ length b → used < 67108864
    → ((more : List ℕ) → right (length order) (b ++ c ∷ more) ≡ length b)
    → (nat_eq c 10 ≡ true → whole (length order) b ≡ false)
    → rows order (used - length b) (lines (b ++ c ∷ rest)) ≡ followed (Wrong (refused 3 used (used + 1))) behind
byte_wrong order used b c rest behind h good within stop part =
    let f = lines_begun b c rest (right_open (length order) b good) in
    let at : used - length b + length b ≡ used = before used b h in
    let below : used - length b + length b < 67108864 = omega arith in
    first_row order (used - length b) (b ++ c ∷ rest) (b ++ c ∷ []) _ f.more f.others f.is
    (ap (row order (used - length b)) (sym (one_more b c f.more)) ∙ row_wrong order b c f.more (used - length b) good
    (stop f.more) part below ∙ ap (λ k. Wrong (refused 3 k (k + 1))) at) behind

pub byte_ended : (order : List ℕ) (used : ℕ) (b : List ℕ) (rest : List ℕ) → length b ≤ used
    → right (length order) b ≡ length b → used < 67108864 → whole (length order) b ≡ true
    → rows order (used - length b) (lines (b ++ 10 ∷ rest))
    ≡ followed (Good (entry order b)) (rows order (used + 1 - 0) (lines rest))
byte_ended order used b rest h good within all =
    let below : used - length b + length b < 67108864 = omega arith in
    let next : used - length b + length (b ++ 10 ∷ []) ≡ used + 1 - 0 = omega (arith, length-append b (10 ∷ [])) in
    ap (rows order (used - length b)) (lines_ended b rest (right_open (length order) b good))
    ∙ (ap (λ f. followed f (rows order (used - length b + length (b ++ 10 ∷ [])) (lines rest)))
    (row_good order b (used - length b) good all below)
    ∙ ap (λ k. followed (Good (entry order b)) (rows order k (lines rest))) next)

pub end_good : (order : List ℕ) (used : ℕ) (b : List ℕ) → 0 < length b → length b ≤ used
    → right (length order) b ≡ length b → used ≤ 67108864 → whole (length order) b ≡ true
    → rows order (used - length b) (lines (b ++ [])) ≡ followed (Good (entry order b)) no_rows
end_good order used [] some h good within all = absurd (omega arith)
end_good order used (x ∷ b) some h good within all =
    let below : used - length (x ∷ b) + length (x ∷ b) ≤ 67108864 = omega arith in
    ap (λ l. rows order (used - length (x ∷ b)) (lines l)) (append-nil (x ∷ b))
    ∙ (ap (rows order (used - length (x ∷ b))) (lines_open x b (right_open (length order) (x ∷ b) good))
    ∙ ap (λ f. followed f no_rows) (row_last order (x ∷ b) (used - length (x ∷ b)) good all below))

pub end_short : (order : List ℕ) (used : ℕ) (b : List ℕ) (behind : Rows) → 0 < length b → length b ≤ used
    → right (length order) b ≡ length b → used ≤ 67108864 → whole (length order) b ≡ false
    → rows order (used - length b) (lines (b ++ [])) ≡ followed (Wrong (refused 3 used used)) behind
end_short order used [] behind some h good within part = absurd (omega arith)
end_short order used (x ∷ b) behind some h good within part =
    let at : used - length (x ∷ b) + length (x ∷ b) ≡ used = before used (x ∷ b) h in
    let below : used - length (x ∷ b) + length (x ∷ b) ≤ 67108864 = omega arith in
    ap (λ l. rows order (used - length (x ∷ b)) (lines l)) (append-nil (x ∷ b))
    ∙ (ap (rows order (used - length (x ∷ b))) (lines_open x b (right_open (length order) (x ∷ b) good))
    ∙ ap (λ f. followed f no_rows) (row_short order (x ∷ b) (used - length (x ∷ b)) good part below ∙ ap
    (λ k. Wrong (refused 3 k k)) at))
