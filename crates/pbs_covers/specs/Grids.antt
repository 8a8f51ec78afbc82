-- Tables of what is true of each stretch [i,j) of a run of n vectors: a row for each start, from n down, with an entry for
-- each end.
use Rattle.std.specs.Prelude.{ℕ, ◌-◌, ◌+◌, Bool, false, not, ◌&&◌, ◌||◌, nat_le, List, [], Option, Some, None, slice_get}
use Rattle.pbs_derive.specs.Derivations.{some_below, some_within, some_after, first_after}

abbrev pub value_of : Option Bool → Bool
value_of None = false
value_of (Some b) = b

abbrev pub row_of : Option (List Bool) → List Bool
row_of None = []
row_of (Some row) = row

-- entry j of a row
abbrev pub entry : List Bool → ℕ → Bool
entry row j = value_of (slice_get row j)

-- the entry for the stretch [i,j): the rows go from start n down
abbrev pub at : ℕ → List (List Bool) → ℕ → ℕ → Bool
at n grid i j = entry (row_of (slice_get grid (n - i))) j

-- the left grid leads from i to some m from k on, and the right one from there to j
abbrev pub joint : ℕ → List (List Bool) → List (List Bool) → ℕ → ℕ → ℕ → Bool
joint n left right k i j = some_within k j (λ m. at n left i m && at n right m j)

abbrev pub throughout : List Bool → ℕ → ℕ → Bool
throughout truths i j = not (some_below j (λ m. nat_le i m && not (entry truths m)))

abbrev pub trips_at : ℕ → List (List Bool) → List (List Bool) → ℕ → ℕ → Bool
trips_at n trap alive i m = at n trap i m && at n alive i (m - 1)

-- the body's grid while nothing has tripped, and from the abort position on the after part's
abbrev pub aborted : ℕ → List (List Bool) → List (List Bool) → List (List Bool) → List (List Bool) → ℕ → ℕ → Bool
aborted n trap alive body then i j =
    (not (some_after i j (trips_at n trap alive i)) && at n body i j) || first_after i j (trips_at n trap alive i)
    (λ m. at n then m j)
