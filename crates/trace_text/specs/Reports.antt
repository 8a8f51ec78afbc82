-- The report of a run: a line for each row, and how it ends.
use Rattle.std.specs.Prelude.{ℕ, zero, suc, ◌+◌, Bool, List, [], ◌∷◌, ◌++◌, codes, decimal, if◌then◌else◌}
use Rattle.pbs_base.specs.Entries.{bit}

-- one space and the name for each output that is 1, from output n on
abbrev pub names_on : (ℕ → Bool) → List (List ℕ) → ℕ → List ℕ
names_on on [] n = []
names_on on (name ∷ names) n = if on n then (32 ∷ name) ++ names_on on names (n + 1) else names_on on names (n + 1)

-- the outputs whose bits are 1
abbrev pub is_on : ℕ → ℕ → Bool
is_on on n = bit n on

abbrev pub or_dash : List ℕ → List ℕ
or_dash [] = codes " -"
or_dash (c ∷ text) = c ∷ text

-- the row's number, then one space and the name for each output that is 1, or a dash where none is
abbrev pub row_line : List (List ℕ) → ℕ → (ℕ → Bool) → List ℕ
row_line names row on = decimal row ++ (or_dash (names_on on names 0) ++ codes "\n")

-- the lines of n rows from row k on, where `outputs` says which outputs are 1 in a row
abbrev pub rows_text : List (List ℕ) → (ℕ → ℕ → Bool) → ℕ → ℕ → List ℕ
rows_text names outputs k zero = []
rows_text names outputs k (suc n) = row_line names k (outputs k) ++ rows_text names outputs (suc k) n

-- the last line of a report of so many entries
abbrev pub end_line : ℕ → List ℕ
end_line count = codes "end " ++ (decimal count ++ codes "\n")
