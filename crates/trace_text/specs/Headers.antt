-- The header of a trace, and a whole trace.
use Rattle.std.specs.Prelude.{ℕ, ◌+◌, Bool, false, nat_eq, ◌&&◌, not, List, [], ◌∷◌, ◌++◌, length, codes, Option}
use Rattle.std.specs.Prelude.{Some, None, if◌then◌else◌}
use Rattle.std.specs.List.{position, list_any, list_all}
use Rattle.std.specs.Cmp.Lexicographic.{pointwise}
use Rattle.pbs_base.specs.declared.refusal.Refusal.{Refusal}
use Rattle.trace_text.specs.Traces.{Rows, rows, lines, bare, onto_first, is_too_long, refused}

-- what stands between the spaces of a line
abbrev pub words : List ℕ → List (List ℕ)
words [] = [] ∷ []
words (c ∷ line) = if nat_eq c 32 then [] ∷ words line else onto_first c (words line)

-- the header's order of ports, or its refusal
pub data Header : Type 0 where
  Order : (order : List ℕ) → Header
  Refusing : (refusal : Refusal) → Header

abbrev pub is_name : List ℕ → Bool
is_name name = not (nat_eq (length name) 0)

abbrev pub is_known : List ℕ → Option ℕ → Bool
is_known order None = false
is_known order (Some port) = not (list_any (λ known. nat_eq known port) order)

abbrev pub with_port : List ℕ → Option ℕ → List ℕ
with_port order None = order
with_port order (Some port) = order ++ port ∷ []

-- the number of the port with this name
abbrev pub port_of : List (List ℕ) → List ℕ → Option ℕ
port_of ports name = position (pointwise nat_eq name) ports

-- The names behind those of `order`, which end at byte `at`. The first that is unknown or stands a second time is
-- refused; where none is, and there are fewer names than ports, a name is missing.
abbrev pub names_order : List (List ℕ) → List ℕ → ℕ → List (List ℕ) → Header
names_order ports order at [] = if nat_eq (length order) (length ports) then Order order else Refusing (refused 2 at at)
names_order ports order at (name ∷ names) =
    if is_known order (port_of ports name)
    then names_order ports (with_port order (port_of ports name)) (at + 1 + length name) names
    else Refusing (refused 2 (at + 1) (at + 1 + length name))

-- the word `trace`, and behind it names, none of them empty
abbrev pub is_header : List (List ℕ) → Bool
is_header [] = false
is_header (first ∷ names) = pointwise nat_eq first (codes "trace") && list_all is_name names

abbrev pub names_of : List (List ℕ) → List (List ℕ)
names_of [] = []
names_of (first ∷ names) = names

-- the header's line without its newline
abbrev pub header_order : List (List ℕ) → List ℕ → Header
header_order ports line =
    if is_header (words line) then names_order ports [] 5 (names_of (words line)) else Refusing
    (refused 2 0 (length line))

abbrev pub header : List (List ℕ) → List ℕ → Header
header ports line = if is_too_long 0 line then Refusing (refused 1 67108864 67108865) else header_order ports
    (bare line)

pub data Trace : Type 0 where
  NoHeader : (refusal : Refusal) → Trace
  Traced : (rows : Rows) → Trace

abbrev pub headed : Header → ℕ → List (List ℕ) → Trace
headed (Refusing refusal) at lines = NoHeader refusal
headed (Order order) at lines = Traced (rows order at lines)

abbrev pub trace_of : List (List ℕ) → List (List ℕ) → Trace
trace_of ports [] = NoHeader (refused 2 0 0)
trace_of ports (line ∷ lines) = headed (header ports line) (length line) lines

-- the trace of a text over ports with these names
abbrev pub trace : List (List ℕ) → List ℕ → Trace
trace ports text = trace_of ports (lines text)
