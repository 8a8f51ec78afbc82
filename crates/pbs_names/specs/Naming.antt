-- The names that a specification declares.
use Rattle.std.specs.Prelude.{ℕ, zero, suc, ◌+◌, ◌==◌, nat_eq, not, ◌&&◌, if◌then◌else◌, Option, Some, None, List, []}
use Rattle.std.specs.Prelude.{◌∷◌, ◌++◌, map, length, codes, decimal}
use Rattle.std.specs.List.{position_from}
use Rattle.std.specs.Cmp.Lexicographic.{pointwise}
use Rattle.pbs_ast.specs.declared.syntax.Decl.{Decl}
use Rattle.pbs_ast.specs.declared.syntax.Expr.{Expr}
use Rattle.pbs_ast.specs.declared.syntax.Level.{Level}
use Rattle.pbs_ast.specs.declared.syntax.Prod.{Prod}
use Rattle.pbs_names.specs.declared.buses.Bus.{Bus}

-- the input that is bit k of a bus
abbrev pub bit_name : List ℕ → ℕ → List ℕ
bit_name name k = name ++ (codes "_" ++ decimal k)

-- the inputs that are n bits of a bus, from bit k on
abbrev pub bit_names : List ℕ → ℕ → ℕ → List (List ℕ)
bit_names name k zero = []
bit_names name k (suc n) = bit_name name k ∷ bit_names name (k + 1) n

-- the inputs that a declaration stands for: a bus stands for its bits, from bit 0 up
abbrev pub inputs_of : Decl → List (List ℕ)
inputs_of d = if nat_eq d.width 0 then d.name ∷ [] else bit_names d.name 0 d.width

-- the inputs in declared order
abbrev pub input_names : List Decl → List (List ℕ)
input_names [] = []
input_names (d ∷ ds) = inputs_of d ++ input_names ds

abbrev pub action_names : List Decl → List (List ℕ)
action_names ds = map (λ d. d.name) ds

abbrev pub level_names : List Level → List (List ℕ)
level_names ls = map (λ l. l.name) ls

abbrev pub prod_names : List Prod → List (List ℕ)
prod_names ps = map (λ p. p.name) ps

-- the number of a name in a list, that of its first place
abbrev pub index_of : List (List ℕ) → List ℕ → Option ℕ
index_of names name = position_from (λ w. pointwise ◌==◌ w name) 0 names

-- the first bus of that name, where n inputs stand before these declarations
abbrev pub bus_from : ℕ → List Decl → List ℕ → Option Bus
bus_from n [] name = None
bus_from n (d ∷ ds) name =
    if not (nat_eq d.width 0) && pointwise ◌==◌ d.name name then Some (record { start = n; width = d.width })
    else bus_from (n + length (inputs_of d)) ds name

abbrev pub bus_of : List Decl → List ℕ → Option Bus
bus_of ds name = bus_from 0 ds name

-- the body of the first production of that name
abbrev pub body_of : List Prod → List ℕ → Option Expr
body_of [] name = None
body_of (p ∷ ps) name = if pointwise ◌==◌ p.name name then Some p.body else body_of ps name
