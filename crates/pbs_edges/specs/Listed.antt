-- First places, last places and follow edges as lists.
use Rattle.std.specs.Prelude.{ℕ, cond, List, [], ◌∷◌, ◌++◌}
use Rattle.pbs_ast.specs.Trees.{Tree, Empty, Terminal, Action, Seq, Choice, Star, Hold, Scope, nullable}
use Rattle.pbs_edges.specs.declared.edge.Edge.{Edge}

-- the first places in rising order
abbrev pub first_places : Tree → List ℕ
first_places (Empty at) = []
first_places (Terminal at p t) = p ∷ []
first_places (Action at a) = []
first_places (Seq at e f) = first_places e ++ cond (nullable e) (first_places f) []
first_places (Choice at e f) = first_places e ++ first_places f
first_places (Star at e) = first_places e
first_places (Hold at t e) = first_places e
first_places (Scope at s e x h) = first_places e ++ first_places x

-- the last places in rising order
abbrev pub last_places : Tree → List ℕ
last_places (Empty at) = []
last_places (Terminal at p t) = p ∷ []
last_places (Action at a) = []
last_places (Seq at e f) = cond (nullable f) (last_places e) [] ++ last_places f
last_places (Choice at e f) = last_places e ++ last_places f
last_places (Star at e) = last_places e
last_places (Hold at t e) = last_places e
last_places (Scope at s e x h) = last_places e ++ (cond (nullable h) (last_places x) [] ++ last_places h)

-- the edges by node n from place p to each of the places qs
abbrev pub edges_to : ℕ → ℕ → List ℕ → List Edge
edges_to n p [] = []
edges_to n p (q ∷ qs) = record { from = p; to = q; node = n } ∷ edges_to n p qs

-- the edges by node n from each of the places ps to each of qs
abbrev pub edges_between : ℕ → List ℕ → List ℕ → List Edge
edges_between n [] qs = []
edges_between n (p ∷ ps) qs = edges_to n p qs ++ edges_between n ps qs

-- the follow edges, those of a node after those of its parts
abbrev pub follow_edges : Tree → List Edge
follow_edges (Empty at) = []
follow_edges (Terminal at p t) = []
follow_edges (Action at a) = []
follow_edges (Seq at e f) = follow_edges e ++
    (follow_edges f ++ edges_between at.number (last_places e) (first_places f))
follow_edges (Choice at e f) = follow_edges e ++ follow_edges f
follow_edges (Star at e) = follow_edges e ++ edges_between at.number (last_places e) (first_places e)
follow_edges (Hold at t e) = follow_edges e
follow_edges (Scope at s e x h) = follow_edges e ++
    (follow_edges x ++ (follow_edges h ++ edges_between at.number (last_places x) (first_places h)))
