-- What the next byte of a row is.
use Rattle.std.specs.Prelude.{◌≡◌, ℕ, ◌+◌, ◌<◌, Bool, true, false, nat_eq, List, [], ◌∷◌, ◌++◌, length}
use Rattle.trace_text.specs.Traces.{right, wanted}

-- the begun line has all the bytes that it should have
abbrev pub whole : ℕ → List ℕ → Bool
whole n begun = nat_eq (length begun) (wanted n begun)

-- the byte is right behind the begun line, or it is the first wrong one, whatever follows it
abbrev pub Wants : ℕ → List ℕ → ℕ → Bool → Type 0
Wants n begun c true = right n (begun ++ c ∷ []) ≡ length begun + 1
Wants n begun c false = (more : List ℕ) → right n (begun ++ c ∷ more) ≡ length begun

-- the numbers of ports: there are at most 64
abbrev pub ArePorts : List ℕ → Type 0
ArePorts [] = Unit {0}
ArePorts (port ∷ order) = (port < 64) × ArePorts order
