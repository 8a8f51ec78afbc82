-- The rows of a trace, and how it ends.
use Rattle.std.specs.Prelude.{ℕ, zero, suc, ◌+◌, ◌^◌, min, Bool, nat_eq, nat_lt, nat_le, ◌||◌, ◌&&◌, List, [], ◌∷◌}
use Rattle.std.specs.Prelude.{length, bit_or, if◌then◌else◌}
use Rattle.pbs_base.specs.declared.entry.Entry.{Entry}
use Rattle.pbs_base.specs.declared.entry.Entry.TheVariants.{Vector, Reset}
use Rattle.pbs_base.specs.declared.refusal.Refusal.{Refusal}
use Rattle.pbs_base.specs.declared.refusal.Subject.TheVariants.{Trace}

-- ---- lines

-- the byte in front of the first of these lines, in that line
abbrev pub onto_first : ℕ → List (List ℕ) → List (List ℕ)
onto_first c [] = (c ∷ []) ∷ []
onto_first c (line ∷ lines) = (c ∷ line) ∷ lines

-- the lines of a text, each with the newline that ends it, which only the last may lack
abbrev pub lines : List ℕ → List (List ℕ)
lines [] = []
lines (c ∷ text) = if nat_eq c 10 then (c ∷ []) ∷ lines text else onto_first c (lines text)

-- the bytes up to the first newline and with it, or all bytes where there is none
abbrev pub first_line : List ℕ → List ℕ
first_line [] = []
first_line (c ∷ text) = if nat_eq c 10 then c ∷ [] else c ∷ first_line text

-- a line without its newline
abbrev pub bare : List ℕ → List ℕ
bare [] = []
bare (c ∷ line) = if nat_eq c 10 then [] else c ∷ bare line

-- the refusal of a trace
abbrev pub refused : ℕ → ℕ → ℕ → Refusal
refused rule start end = record { subject = Trace; rule = rule; span = record { start = start; end = end } }

-- a line that begins at this byte isn't ended within the first 67,108,864 bytes, and there are more bytes
abbrev pub is_too_long : ℕ → List ℕ → Bool
is_too_long at line = nat_lt 67108864 (at + length line)

-- ---- rows

abbrev pub is_digit : ℕ → Bool
is_digit c = nat_eq c 48 || nat_eq c 49

-- how many digits stand at the front of a line, at most n of them
abbrev pub digits : ℕ → List ℕ → ℕ
digits zero line = 0
digits (suc n) [] = 0
digits (suc n) (c ∷ line) = if is_digit c then suc (digits n line) else 0

-- how many bytes at the front of a row of n digits are right, where a row of the one letter r is a reset
abbrev pub right : ℕ → List ℕ → ℕ
right n [] = 0
right n (c ∷ line) = if nat_eq c 114 then 1 else digits n (c ∷ line)

-- how many bytes the row should have
abbrev pub wanted : ℕ → List ℕ → ℕ
wanted n [] = n
wanted n (c ∷ line) = if nat_eq c 114 then 1 else n

-- all wanted bytes are right, and the line has no more
abbrev pub is_good : ℕ → List ℕ → Bool
is_good n line = nat_eq (right n line) (wanted n line) && nat_eq (length (bare line)) (wanted n line)

-- the vector whose bit n is the digit of port n: `order` has the port of each digit
abbrev pub vector : List ℕ → List ℕ → ℕ
vector [] line = 0
vector (port ∷ order) [] = 0
vector (port ∷ order) (c ∷ line) = if nat_eq c 49 then bit_or (2 ^ port) (vector order line) else vector order line

abbrev pub entry : List ℕ → List ℕ → Entry
entry order [] = Vector (vector order [])
entry order (c ∷ line) = if nat_eq c 114 then Reset else Vector (vector order (c ∷ line))

-- what a line is
pub data Found : Type 0 where
  Good : (entry : Entry) → Found
  Wrong : (refusal : Refusal) → Found

-- the first wrong byte of a line that begins at byte `at`, or the end of the text where it ends early
abbrev pub wrong_row : ℕ → ℕ → List ℕ → Refusal
wrong_row n at line = refused 3 (at + right n line) (min (at + right n line + 1) (at + length line))

-- the row of a line that begins at byte `at`: rule 1 yields to rule 3 where that is broken at an earlier byte
abbrev pub row : List ℕ → ℕ → List ℕ → Found
row order at line =
    if is_too_long at line && nat_le 67108864 (at + right (length order) line) then Wrong (refused 1 67108864 67108865)
    else (if is_good (length order) line then Good (entry order line) else Wrong (wrong_row (length order) at line))

-- how a trace ends
pub data Ending : Type 0 where
  End : Ending
  Refused : (refusal : Refusal) → Ending

-- the entries of the good rows, and how the trace ends
pub record Rows : Type 0 where
  pub entries : List Entry
  pub ending : Ending

abbrev pub no_rows : Rows
no_rows = record { entries = []; ending = End }

-- nothing follows a refusal
abbrev pub followed : Found → Rows → Rows
followed (Good entry) behind = record { entries = entry ∷ behind.entries; ending = behind.ending }
followed (Wrong refusal) behind = record { entries = []; ending = Refused refusal }

-- the rows of lines of which the first begins at byte `at`
abbrev pub rows : List ℕ → ℕ → List (List ℕ) → Rows
rows order at [] = no_rows
rows order at (line ∷ lines) = followed (row order at line) (rows order (at + length line) lines)
