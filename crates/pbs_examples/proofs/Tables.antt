-- What a run shows, row by row: by the derivations, and by the controller.
use Rattle.std.proofs.Common.{◌≡◌, ℕ, zero, suc, Bool, true, nat_eq, if◌then◌else◌}
use Rattle.std.proofs.Common.{List, [], ◌∷◌, map, length, slice_index}
use Rattle.bool_terms.specs.Terms.{Term}
use Rattle.pbs_ast.specs.Trees.{Tree, Spot, is_place, is_action}
use Rattle.pbs_ast.specs.Trees.{Empty, Terminal, Action, Seq, Choice, Star, Hold, Scope}
use Rattle.pbs_examples.specs.inner.Spots.{at}
use Rattle.pbs_derive.specs.Derivations.{fires, stands}
use Rattle.pbs_machine.specs.Rows.{main_starts}

-- the trees, all written at one spot
abbrev pub here : Spot
here = at 0

abbrev pub none : Tree
none = Empty here

abbrev pub step : ℕ → Term → Tree
step p t = Terminal here p t

abbrev pub act : ℕ → Tree
act a = Action here a

abbrev pub both : Tree → Tree → Tree
both e f = Seq here e f

abbrev pub either : Tree → Tree → Tree
either e f = Choice here e f

abbrev pub many : Tree → Tree
many e = Star here e

abbrev pub during : Term → Tree → Tree
during t e = Hold here t e

abbrev pub guarded : Tree → Tree → Tree → Tree
guarded body trap after = Scope here 0 body trap after

-- the numbers that pass the test
abbrev pub select : (ℕ → Bool) → List ℕ → List ℕ
select test [] = []
select test (n ∷ rest) = if test n then n ∷ select test rest else select test rest

abbrev pub numbers_from : ℕ → ℕ → List ℕ
numbers_from n zero = []
numbers_from n (suc count) = n ∷ numbers_from (suc n) count

-- the actions below 3 that fire in each row, by the derivations
abbrev pub derived : Tree → List ℕ → List (List ℕ)
derived main v = map (λ k. select (fires main v 0 k) (numbers_from 0 3)) (numbers_from 0 (suc (length v)))

-- row 0 is the reset row, in which all inputs are 1 here, and row k + 1 reads vector k
abbrev pub input_of : List ℕ → ℕ → ℕ
input_of v zero = 7
input_of v (suc k) = slice_index v k

-- the registers are all 1 before row 0, and take the start bits of the row before
abbrev pub registers : (Tree → (Tree → Bool) → (ℕ → Bool) → ℕ → Bool → Bool) → Tree → List ℕ → ℕ → ℕ → Bool
registers starts main v zero p = true
registers starts main v (suc k) p = starts main (is_place p) (registers starts main v k) (input_of v k) (nat_eq k 0)

-- the actions below 3 whose start bit is 1 in row k
abbrev pub shown_in : (Tree → (Tree → Bool) → (ℕ → Bool) → ℕ → Bool → Bool) → Tree → List ℕ → ℕ → List ℕ
shown_in starts main v k =
    select (λ a. starts main (is_action a) (registers starts main v k) (input_of v k) (nat_eq k 0)) (numbers_from 0 3)

-- the same in each row
abbrev pub shown_by : (Tree → (Tree → Bool) → (ℕ → Bool) → ℕ → Bool → Bool) → Tree → List ℕ → List (List ℕ)
shown_by starts main v = map (shown_in starts main v) (numbers_from 0 (suc (length v)))

-- both the derivations and the controller give these rows
abbrev pub Gives : Tree → List ℕ → List (List ℕ) → Type 0
Gives main v rows = (derived main v ≡ rows) × (shown_by main_starts main v ≡ rows)

-- the places below n that stand in each row, by the derivations and by the controller
abbrev pub Stands : Tree → List ℕ → ℕ → List (List ℕ) → Type 0
Stands main v n rows =
    (map (λ k. select (stands main v 0 k) (numbers_from 0 n)) (numbers_from 0 (suc (length v))) ≡ rows)
    × (map (λ k. select (registers main_starts main v (suc k)) (numbers_from 0 n)) (numbers_from 0 (suc (length v)))
    ≡ rows)
