-- How many assignments a level has, and how many pins the fire wires are.
use Rattle.std.proofs.Common.{◌≡◌, ℕ, zero, suc, ◌+◌, ◌<◌, ◌≤◌}
use Rattle.std.proofs.Common.{List, [], ◌∷◌, ◌++◌, length, take, refl, arith}
use Rattle.std.specs.Prelude.{Bool, Option, None, Some}
use Rattle.std.proofs.lemmas.Bool.Decides.{nat_tests}
use Rattle.net_core.specs.declared.gate.Wire.{Wire}
use Rattle.net_core.specs.Circuits.{wire_at}
use Rattle.net_core.specs.Building.{input_pin, input_pins}
use Rattle.act_schedule.specs.declared.plan.PlanSet.{PlanSet}
use Rattle.act_schedule.specs.declared.plan.PlanLevel.{PlanLevel}
use Rattle.act_schedule.specs.Levels.{set_of}
use Rattle.act_schedule.specs.Circuits.{level_units}
use Rattle.act_schedule.specs.inner.Adding.{listed_below, listed_one}

-- the first assignment counts once at most, and not before its action
first_counts : (s : PlanSet) (sets : List PlanSet) (m : ℕ)
    → (m ≤ s.action → listed_below (s ∷ sets) m ≤ listed_below sets m)
    × (listed_below (s ∷ sets) m ≤ 1 + listed_below sets m)
first_counts s sets zero = (λ h. omega arith, omega arith)
first_counts s sets (suc a) =
    let before = first_counts s sets a in
    grind (arith, nat_tests, before)

none_listed : (m : ℕ) → listed_below [] m ≡ 0
none_listed zero = refl
none_listed (suc a) = omega (arith, none_listed a)

pub listed_few : (sets : List PlanSet) (m : ℕ) → listed_below sets m ≤ length sets
listed_few [] m = omega (arith, none_listed m)
listed_few (s ∷ sets) m = omega (arith, (first_counts s sets m).1, listed_few sets m)

pub listed_within : (sets : List PlanSet) (m : ℕ) → listed_below sets m ≤ m
listed_within sets zero = omega arith
listed_within sets (suc a) =
    let before = listed_within sets a in
    let one = one_at_most (set_of sets a) in
    omega (arith, before, one)
  where
    one_at_most : (o : Option Bool) → listed_one o ≤ 1
    one_at_most None = omega arith
    one_at_most (Some bit) = omega arith

pub pins_more : (ws : List Wire) (a : ℕ) → a < length ws
    → input_pins (take (suc a) ws) ≡ input_pins (take a ws) + input_pin (wire_at ws a)
pins_more [] a h = absurd (omega arith)
pins_more (w ∷ ws) zero h = omega arith
pins_more (w ∷ ws) (suc a) h = let e = pins_more ws a (omega arith) in omega (arith, e)

pub units_more : (levels : List PlanLevel) (level : PlanLevel)
    → level_units (levels ++ level ∷ []) ≡ level_units levels + (1 + length level.sets)
units_more [] level = omega arith
units_more (l ∷ levels) level = let e = units_more levels level in omega (arith, e)

-- where no wire of a list is an input, none counts as one
pub no_pins : (ws : List Wire) → ((n : ℕ) → n < length ws → input_pin (wire_at ws n) ≡ 0) → input_pins ws ≡ 0
no_pins [] none = refl
no_pins (w ∷ ws) none =
    let first = none zero (omega arith) in
    let rest = no_pins ws (λ n h. none (suc n) (omega arith)) in
    omega (arith, first, rest)

pub pins_pushed : (ws : List Wire) (w : Wire) → input_pins (ws ++ w ∷ []) ≡ input_pins ws + input_pin w
pins_pushed [] w = omega arith
pins_pushed (x ∷ ws) w = let e = pins_pushed ws w in omega (arith, e)
