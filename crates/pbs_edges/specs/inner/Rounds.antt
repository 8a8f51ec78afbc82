-- The scopes round each place and each node of a numbered tree.
use Rattle.std.specs.Prelude.{ℕ, ◌+◌, cond, nat_eq, nat_lt, List, [], ◌∷◌}
use Rattle.pbs_ast.specs.Trees.{Tree, Empty, Terminal, Action, Seq, Choice, Star, Hold, Scope}
use Rattle.pbs_ast.specs.Sound.{visit_count, place_count}
use Rattle.pbs_edges.specs.Edges.{Round, Body, Trap}

-- of a tree whose places are numbered from b, the scopes round place p, the outermost first
abbrev pub place_rounds : Tree → (b p : ℕ) → List Round
place_rounds (Empty at) b p = []
place_rounds (Terminal at q t) b p = []
place_rounds (Action at a) b p = []
place_rounds (Seq at e f) b p = cond (nat_lt p (b + place_count e)) (place_rounds e b p)
    (place_rounds f (b + place_count e) p)
place_rounds (Choice at e f) b p = cond (nat_lt p (b + place_count e)) (place_rounds e b p)
    (place_rounds f (b + place_count e) p)
place_rounds (Star at e) b p = place_rounds e b p
place_rounds (Hold at t e) b p = place_rounds e b p
place_rounds (Scope at s e x h) b p = cond (nat_lt p (b + place_count e)) (Body s ∷ place_rounds e b p)
    (cond (nat_lt p (b + place_count e + place_count x)) (Trap s ∷ place_rounds x (b + place_count e) p)
    (place_rounds h (b + place_count e + place_count x) p))

-- of a tree whose nodes are numbered from b, the scopes in whose body or trap node m lies
abbrev pub node_rounds : Tree → (b m : ℕ) → List Round
node_rounds (Empty at) b m = []
node_rounds (Terminal at q t) b m = []
node_rounds (Action at a) b m = []
node_rounds (Seq at e f) b m = cond (nat_eq m b) []
    (cond (nat_lt m (b + 1 + visit_count e)) (node_rounds e (b + 1) m) (node_rounds f (b + 1 + visit_count e) m))
node_rounds (Choice at e f) b m = cond (nat_eq m b) []
    (cond (nat_lt m (b + 1 + visit_count e)) (node_rounds e (b + 1) m) (node_rounds f (b + 1 + visit_count e) m))
node_rounds (Star at e) b m = cond (nat_eq m b) [] (node_rounds e (b + 1) m)
node_rounds (Hold at t e) b m = cond (nat_eq m b) [] (node_rounds e (b + 1) m)
node_rounds (Scope at s e x h) b m = cond (nat_eq m b) []
    (cond (nat_lt m (b + 1 + visit_count e)) (Body s ∷ node_rounds e (b + 1) m)
    (cond (nat_lt m (b + 1 + visit_count e + visit_count x)) (Trap s ∷ node_rounds x (b + 1 + visit_count e) m)
    (node_rounds h (b + 1 + visit_count e + visit_count x) m)))
