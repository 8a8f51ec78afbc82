-- How copies of a tree stand in a bounded repetition.
use Rattle.std.specs.Prelude.{ℕ, zero, suc, ◌+◌, ◌-◌, ◌/◌, nat_eq, if◌then◌else◌}
use Rattle.pbs_ast.specs.Trees.{Tree, Spot, spot_of, Empty, Terminal, Action, Seq, Choice, Star, Hold, Scope}

-- a tree whose leaves are copies of one tree, or empty
pub data Copies : Type 0 where
  Copy : Copies
  Nothing : Copies
  InTurn : (first second : Copies) → Copies
  Either : (left right : Copies) → Copies

-- k copies in sequence, of which the left part holds the first (k + 1) / 2; to so many levels
abbrev pub copies_to : ℕ → ℕ → Copies
copies_to zero k = Nothing
copies_to (suc room) k =
    if nat_eq k 1 then Copy
    else let half = (k + 1) / 2 in InTurn (copies_to room half) (copies_to room (k - half))

-- F: k copies in sequence, for k from 1
abbrev pub exactly : ℕ → Copies
exactly k = copies_to k k

-- O: at most k copies
abbrev pub at_most : ℕ → Copies
at_most zero = Nothing
at_most (suc zero) = Either Copy Nothing
at_most (suc (suc k)) = Either (InTurn Copy (at_most (suc k))) Nothing

-- at least m copies, and at most n
abbrev pub repeated : ℕ → ℕ → Copies
repeated m n =
    if nat_eq m n then exactly m
    else if nat_eq m 0 then at_most n
    else InTurn (exactly m) (at_most (n - m))

abbrev pub no_spot : Spot
no_spot = spot_of (record { start = 0; end = 0 }) 0

-- the tree apart from its spans and the numbers of its nodes, places and scopes
abbrev pub blank : Tree → Tree
blank (Empty at) = Empty no_spot
blank (Terminal at p t) = Terminal no_spot 0 t
blank (Action at a) = Action no_spot a
blank (Seq at e f) = Seq no_spot (blank e) (blank f)
blank (Choice at e f) = Choice no_spot (blank e) (blank f)
blank (Star at e) = Star no_spot (blank e)
blank (Hold at t e) = Hold no_spot t (blank e)
blank (Scope at s e x h) = Scope no_spot 0 (blank e) (blank x) (blank h)

-- the blank tree in which each copy is e
abbrev pub filled : Copies → Tree → Tree
filled Copy e = e
filled Nothing e = Empty no_spot
filled (InTurn c d) e = Seq no_spot (filled c e) (filled d e)
filled (Either c d) e = Choice no_spot (filled c e) (filled d e)
