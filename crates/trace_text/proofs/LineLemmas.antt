-- Where the first line of a text ends.
use Rattle.std.proofs.Common.{◌≡◌, ℕ, ◌+◌, ◌≤◌, Bool, true, false, nat_eq, ◌||◌, List, [], ◌∷◌, ◌++◌, length, refl}
use Rattle.std.proofs.Common.{ap, arith}
use Rattle.trace_text.specs.Traces.{lines, onto_first, first_line, bare}
use Rattle.trace_text.specs.States.{has_newline}

-- the first line begins with these bytes
pub record BeginsWith (text front : List ℕ) : Type 0 where
  pub more : List ℕ
  pub others : List (List ℕ)
  pub is : lines text ≡ (front ++ more) ∷ others

onto_begun : (c : ℕ) (ls : List (List ℕ))
    → (more : List ℕ) × (others : List (List ℕ)) × (onto_first c ls ≡ (c ∷ more) ∷ others)
onto_begun c [] = ([], [], refl)
onto_begun c (l ∷ ls) = (l, ls, refl)

begun : (c : ℕ) (text : List ℕ) (n : Bool) → nat_eq c 10 ≡ n → BeginsWith (c ∷ text) (c ∷ [])
begun c text true h = record { more = []; others = lines text; is = rw h refl }
begun c text false h = let o = onto_begun c (lines text) in record { more = o.0; others = o.1; is = rw h o.2 }

either_first : (a b : Bool) → (a || b) ≡ false → a ≡ false
either_first true b h = absurd (cc)
either_first false b h = refl

either_second : (a b : Bool) → (a || b) ≡ false → b ≡ false
either_second true b h = absurd (cc)
either_second false b h = h

pub open_head : (x : ℕ) (b : List ℕ) → has_newline (x ∷ b) ≡ false → nat_eq x 10 ≡ false
open_head x b h = either_first (nat_eq x 10) (has_newline b) h

pub open_tail : (x : ℕ) (b : List ℕ) → has_newline (x ∷ b) ≡ false → has_newline b ≡ false
open_tail x b h = either_second (nat_eq x 10) (has_newline b) h

pub lines_begun : (b : List ℕ) (c : ℕ) (text : List ℕ) → has_newline b ≡ false
    → BeginsWith (b ++ c ∷ text) (b ++ c ∷ [])
lines_begun [] c text h = begun c text (nat_eq c 10) refl
lines_begun (x ∷ b) c text h =
    let other : nat_eq x 10 ≡ false = open_head x b h in
    let rest = lines_begun b c text (open_tail x b h) in
    record { more = rest.more; others = rest.others; is = rw other (ap (onto_first x) rest.is) }

pub lines_ended : (b text : List ℕ) → has_newline b ≡ false → lines (b ++ 10 ∷ text) ≡ (b ++ 10 ∷ []) ∷ lines text
lines_ended [] text h = refl
lines_ended (x ∷ b) text h =
    let other : nat_eq x 10 ≡ false = open_head x b h in
    rw other (ap (onto_first x) (lines_ended b text (open_tail x b h)))

pub lines_open : (x : ℕ) (b : List ℕ) → has_newline (x ∷ b) ≡ false → lines (x ∷ b) ≡ (x ∷ b) ∷ []
lines_open x [] h = let other : nat_eq x 10 ≡ false = open_head x [] h in rw other refl
lines_open x (y ∷ b) h =
    let other : nat_eq x 10 ≡ false = open_head x (y ∷ b) h in
    let rest : lines (y ∷ b) ≡ (y ∷ b) ∷ [] = lines_open y b (open_tail x (y ∷ b) h) in
    rw other (ap (onto_first x) rest)

pub bare_ended : (b text : List ℕ) → has_newline b ≡ false → bare (b ++ 10 ∷ text) ≡ b
bare_ended [] text h = refl
bare_ended (x ∷ b) text h =
    let other : nat_eq x 10 ≡ false = open_head x b h in
    rw other (ap (λ l. x ∷ l) (bare_ended b text (open_tail x b h)))

pub bare_open : (b : List ℕ) → has_newline b ≡ false → bare b ≡ b
bare_open [] h = refl
bare_open (x ∷ b) h =
    let other : nat_eq x 10 ≡ false = open_head x b h in
    rw other (ap (λ l. x ∷ l) (bare_open b (open_tail x b h)))

pub bare_long : (b : List ℕ) (c : ℕ) (more : List ℕ) → has_newline b ≡ false → nat_eq c 10 ≡ false
    → length b + 1 ≤ length (bare (b ++ c ∷ more))
bare_long [] c more h other = rw other (omega arith)
bare_long (x ∷ b) c more h other =
    let here : nat_eq x 10 ≡ false = open_head x b h in
    let rest : length b + 1 ≤ length (bare (b ++ c ∷ more)) = bare_long b c more (open_tail x b h) other in
    rw here (omega (arith, rest))

pub first_ended : (b text : List ℕ) → has_newline b ≡ false → length (first_line (b ++ 10 ∷ text)) ≡ length b + 1
first_ended [] text h = refl
first_ended (x ∷ b) text h =
    let other : nat_eq x 10 ≡ false = open_head x b h in
    let rest : length (first_line (b ++ 10 ∷ text)) ≡ length b + 1 = first_ended b text (open_tail x b h) in
    rw other (omega (arith, rest))

pub first_open : (b : List ℕ) → has_newline b ≡ false → length (first_line b) ≡ length b
first_open [] h = refl
first_open (x ∷ b) h =
    let other : nat_eq x 10 ≡ false = open_head x b h in
    let rest : length (first_line b) ≡ length b = first_open b (open_tail x b h) in
    rw other (omega (arith, rest))
