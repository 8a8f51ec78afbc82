-- The codes by which places share registers.
use Rattle.std.specs.Prelude.{◌≡◌, ℕ, zero, suc, ◌+◌, ◌<◌, Bool, true, false, not, ◌&&◌, ◌||◌, nat_eq, cond}
use Rattle.std.specs.Prelude.{List, [], ◌∷◌, length, map, take, slice_get, Some, Contains}
use Rattle.pbs_base.specs.Entries.{bit}
use Rattle.net_core.specs.declared.codes.Literal.{Literal}
use Rattle.net_core.specs.declared.codes.Code.{Code}
use Rattle.net_core.specs.declared.codes.Code.TheVariants.{Never, Bits}
use Rattle.net_core.specs.declared.codes.CodePlan.{CodePlan}
use Rattle.net_core.specs.Plans.{leader_of}

-- how many registers a group of so many members has: as many as its codes 1, 2, .. need beside 0, where none stands
abbrev pub width : ℕ → ℕ
width zero = 0
width (suc zero) = 1
width (suc (suc zero)) = 2
width (suc (suc (suc zero))) = 2
width (suc (suc (suc (suc n)))) = 3

-- how many registers all groups have
abbrev pub code_registers : List (List ℕ) → ℕ
code_registers [] = 0
code_registers (g ∷ gs) = width (length g) + code_registers gs

-- so many bits of a code, at most three, the lowest first
abbrev pub low_bits : ℕ → ℕ → List Bool
low_bits count code = take count (bit 0 code ∷ bit 1 code ∷ bit 2 code ∷ [])

-- the registers from the first on have these values
abbrev pub literals_from : ℕ → List Bool → List Literal
literals_from first [] = []
literals_from first (b ∷ bs) = record { reg = first; value = b } ∷ literals_from (suc first) bs

-- the code of a leader in a group on so many registers from the first on, whose members have the codes from `code` on;
-- the other code where it is none of them
abbrev pub code_within : (first count code : ℕ) → (group : List ℕ) → (leader : ℕ) → (other : Code) → Code
code_within first count code [] leader other = other
code_within first count code (m ∷ ms) leader other =
    cond (nat_eq m leader) (Bits (literals_from first (low_bits count code)))
    (code_within first count (suc code) ms leader other)

-- the code of a leader in groups whose registers follow one another from the first on; one in no group never stands
abbrev pub code_in : (first : ℕ) → (groups : List (List ℕ)) → (leader : ℕ) → Code
code_in first [] leader = Never
code_in first (g ∷ gs) leader =
    code_within first (width (length g)) 1 g leader (code_in (first + width (length g)) gs leader)

-- each place has its leader's code
abbrev pub codes_of : CodePlan → List Code
codes_of plan = map (λ leader. code_in 0 plan.groups leader) plan.leaders

-- a register that is to have this value has it
abbrev pub agrees : Bool → Bool → Bool
agrees true b = b
agrees false b = not b

-- the registers have the values of all literals
abbrev pub all_hold : (ℕ → Bool) → List Literal → Bool
all_hold registers [] = true
all_hold registers (l ∷ ls) = agrees l.value (registers l.reg) && all_hold registers ls

-- the registers tell that the place of this code stands
abbrev pub tells : (ℕ → Bool) → Code → Bool
tells registers Never = false
tells registers (Bits literals) = all_hold registers literals

-- the code has the literal of the register with value true
abbrev pub has_one : ℕ → List Literal → Bool
has_one r [] = false
has_one r (l ∷ ls) = (nat_eq l.reg r && l.value) || has_one r ls

abbrev pub code_has_one : ℕ → Code → Bool
code_has_one r Never = false
code_has_one r (Bits literals) = has_one r literals

-- at most one member of each group stands
pub record StandApart (groups : List (List ℕ)) (stands : ℕ → Bool) : Type 0 where
  pub apart : (n i j : ℕ) (g : List ℕ) (p q : ℕ) → slice_get groups n ≡ Some g → slice_get g i ≡ Some p
      → slice_get g j ≡ Some q → stands p ≡ true → stands q ≡ true → p ≡ q

-- of the first so many places those stand that the plan lets stand: no never place, a place where its leader does, and
-- of each group one member at most
pub record Obeys (places : ℕ) (plan : CodePlan) (stands : ℕ → Bool) : Type 0 where
  pub never : (p : ℕ) → p < places → Contains plan.never p → stands p ≡ false
  pub twins : (p : ℕ) → p < places → stands p ≡ stands (leader_of plan p)
  pub apart : StandApart plan.groups stands

-- the register is 1 exactly where some place that stands has its literal with value true
pub record IsDue (stands : ℕ → Bool) (codes : List Code) (r : ℕ) (on : Bool) : Type 0 where
  pub some : on ≡ true → (p : ℕ) × (c : Code) × (slice_get codes p ≡ Some c) × (stands p ≡ true)
      × (code_has_one r c ≡ true)
  pub one : (p : ℕ) (c : Code) → slice_get codes p ≡ Some c → stands p ≡ true → code_has_one r c ≡ true → on ≡ true
