-- The values of levels.
use Rattle.std.specs.Prelude.{ℕ, zero, suc, ◌+◌, Bool, true, false, if◌then◌else◌, nat_eq, List, [], ◌∷◌, Option, Some}
use Rattle.std.specs.Prelude.{None, slice_get}
use Rattle.pbs_base.specs.declared.entry.Entry.{Entry}
use Rattle.pbs_base.specs.declared.entry.Entry.TheVariants.{Vector, Reset}
use Rattle.act_schedule.specs.declared.plan.PlanSet.{PlanSet}
use Rattle.act_schedule.specs.declared.plan.PlanLevel.{PlanLevel}

-- what the level's list sets where the action fires
abbrev pub set_of : List PlanSet → ℕ → Option Bool
set_of [] a = None
set_of (s ∷ sets) a = if nat_eq s.action a then Some s.value else set_of sets a

-- the bit where the first is true, and otherwise the value that there was
abbrev pub set_where : Bool → Bool → Bool → Bool
set_where true bit was = bit
set_where false bit was = was

-- an action that isn't listed leaves the value as it is
abbrev pub step_of : Option Bool → Bool → Bool → Bool
step_of None fires was = was
step_of (Some bit) fires was = set_where fires bit was

-- the value once the first m actions were gone through, in declared order
abbrev pub after_actions : List PlanSet → (ℕ → Bool) → Bool → ℕ → Bool
after_actions sets fires was zero = was
after_actions sets fires was (suc a) = step_of (set_of sets a) (fires a) (after_actions sets fires was a)

-- the value with which a row begins: the initial one where the row's entry is a reset
abbrev pub from_entry : Bool → Option Entry → Bool → Bool
from_entry start (Some Reset) was = start
from_entry start (Some (Vector x)) was = was
from_entry start None was = was

-- the level's value after row k over these entries, where `fired` says which of m actions fire in which row
abbrev pub level_value : PlanLevel → ℕ → List Entry → (ℕ → ℕ → Bool) → ℕ → Bool
level_value level m v fired zero = after_actions level.sets (fired zero) level.start m
level_value level m v fired (suc k) =
    after_actions level.sets (fired (suc k))
    (from_entry level.start (slice_get v k) (level_value level m v fired k)) m

-- ---- the same in one fold

abbrev pub reset_or : Option Entry → ℕ → ℕ → ℕ
reset_or (Some Reset) here before = here
reset_or (Some (Vector x)) here before = before
reset_or None here before = before

-- the last row at or before k that is row 0 or reads a reset
abbrev pub last_reset : List Entry → ℕ → ℕ
last_reset v zero = zero
last_reset v (suc k) = reset_or (slice_get v k) (suc k) (last_reset v k)

-- the fold over row r and n rows more, from the initial value
abbrev pub folded : PlanLevel → ℕ → (ℕ → ℕ → Bool) → ℕ → ℕ → Bool
folded level m fired r zero = after_actions level.sets (fired r) level.start m
folded level m fired r (suc n) = after_actions level.sets (fired (r + suc n)) (folded level m fired r n) m
