-- A search along lists of numbers, for all to which one of them leads.
use Rattle.std.specs.Prelude.{◌≡◌, ◌+◌, ℕ, ◌⊎◌, nat_eq, Bool, not, Option, Some, None, List, length, slice_get}
use Rattle.std.specs.Prelude.{slice_index_or, Contains}
use Rattle.std.specs.List.{count_by}
use Rattle.std.specs.Option.{option_eq}
use Rattle.std.specs.Global.{Vec}
use Rattle.pbs_check.specs.declared.searching.Search.{Search}
use Rattle.pbs_check.specs.inner.Links.{HasNext}

-- along the lists one number leads to another through numbers that have the label
pub data LeadsBy (lists : List (Vec ℕ)) (labels : List (Option ℕ)) (label : Option ℕ) (root : ℕ) : ℕ → Type 0 where
  Stay : LeadsBy lists labels label root root
  Onward : {via to : ℕ} → HasNext lists via to → slice_get labels to ≡ Some label
      → LeadsBy lists labels label root via → LeadsBy lists labels label root to

abbrev pub IsMarked : List (Option ℕ) → ℕ → ℕ → Type 0
IsMarked marks root k = slice_index_or marks k None ≡ Some root

-- what the root leads to is marked by it, and the other marks are as they were
pub record Spreads (lists : List (Vec ℕ)) (labels : List (Option ℕ)) (label : Option ℕ) (root : ℕ)
    (old new : List (Option ℕ)) : Type 0 where
  pub size : length new ≡ length old
  pub marked : (k : ℕ) → LeadsBy lists labels label root k → IsMarked new root k
  pub only : (k : ℕ) → (slice_index_or new k None ≡ slice_index_or old k None)
      ⊎ (LeadsBy lists labels label root k × IsMarked new root k)

abbrev pub is_other : ℕ → Option ℕ → Bool
is_other root mark = not (option_eq nat_eq mark (Some root))

-- what was reached is marked, and stands in the list once
pub record IsSearch (root : ℕ) (s : Search) : Type 0 where
  pub marked : (k : ℕ) → IsMarked s.marks.items root k → Contains s.reached.items k
  pub reached : (k : ℕ) → Contains s.reached.items k → IsMarked s.marks.items root k
  pub count : count_by (is_other root) s.marks.items + length s.reached.items ≡ length s.marks.items

-- a search that has gone on: what is new is of that kind
pub record Grows (root : ℕ) (Q : ℕ → Type 0) (old new : Search) : Type 0 where
  pub kept : (m k : ℕ) → slice_get old.reached.items m ≡ Some k → slice_get new.reached.items m ≡ Some k
  pub marks : (k : ℕ) → IsMarked old.marks.items root k → IsMarked new.marks.items root k
  pub others : (k : ℕ) → (slice_index_or new.marks.items k None ≡ slice_index_or old.marks.items k None)
      ⊎ IsMarked new.marks.items root k
  pub only : (k : ℕ) → Contains new.reached.items k → Contains old.reached.items k ⊎ Q k
  pub search : IsSearch root old → IsSearch root new
  pub size : length new.marks.items ≡ length old.marks.items
