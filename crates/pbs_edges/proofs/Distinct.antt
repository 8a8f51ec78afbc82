-- In a numbered tree no follow edge is listed twice.
use Rattle.std.proofs.Common.{◌≡◌, ℕ, suc, ◌+◌, ◌<◌, ◌≤◌, true, inl, inr, List, [], ◌∷◌, ◌++◌, arith, refl}
use Rattle.std.specs.Prelude.{nat_eq}
use Rattle.std.proofs.lemmas.Bool.{and_parts, eqb-true}
use Rattle.pbs_ast.specs.Trees.{Tree, Empty, Terminal, Action, Seq, Choice, Star, Hold, Scope}
use Rattle.pbs_ast.specs.Sound.{visit_count, place_count, scope_count}
use Rattle.pbs_edges.proofs.Numbering.{numbered}
use Rattle.pbs_edges.specs.Listed.{first_places, last_places, edges_to, edges_between, follow_edges}
use Rattle.pbs_edges.specs.declared.edge.Edge.{Edge}
use Rattle.pbs_edges.proofs.Rounds.{pair_parts, scope_parts, node_of, node_found}
use Rattle.pbs_edges.proofs.Listed.{OneOf, one_of-cases, to_listed, between_listed, follow_listed, numbers}
use Rattle.pbs_edges.proofs.Rising.{RisesWithin, first_places-rise, last_places-rise}

-- no edge stands twice in the list
abbrev pub Distinct : List Edge → Type 0
Distinct [] = Unit {0}
Distinct (d ∷ ds) = (OneOf ds d → ⊥) × Distinct ds

distinct-append : (xs ys : List Edge) → Distinct xs → Distinct ys → ((d : Edge) → OneOf xs d → OneOf ys d → ⊥)
    → Distinct (xs ++ ys)
distinct-append [] ys h g apart = g
distinct-append (x ∷ xs) ys h g apart = (
  λ m. elim (one_of-cases xs ys x m) [ inl l ↦ h.0 l | inr r ↦ apart x (inl refl) r ],
  distinct-append xs ys h.1 g (λ d l r. apart d (inr l) r),
)

rises-low : (b c x : ℕ) (xs : List ℕ) → RisesWithin b c xs → OneOf xs x → b ≤ x
rises-low b c x [] h m = absurd m
rises-low b c x (y ∷ ys) h m = elim m [
  | inl e ↦ let l = h.0 in omega arith
  | inr t ↦ let l = h.0 in let k = rises-low (suc y) c x ys h.1 t in omega arith
]

distinct_to : (n p b c : ℕ) (qs : List ℕ) → RisesWithin b c qs → Distinct (edges_to n p qs)
distinct_to n p b c [] h = tt
distinct_to n p b c (q ∷ qs) h = (
  λ m. let k = rises-low (suc q) c q qs h.1 (to_listed n p qs (numbers p q n) m).2 in omega arith,
  distinct_to n p (suc q) c qs h.1,
)

distinct_between : (n b c d f : ℕ) (ps qs : List ℕ) → RisesWithin b c ps → RisesWithin d f qs → Distinct
    (edges_between n ps qs)
distinct_between n b c d f [] qs h g = tt
distinct_between n b c d f (p ∷ ps) qs h g =
    distinct-append (edges_to n p qs) (edges_between n ps qs) (distinct_to n p d f qs g)
    (distinct_between n (suc p) c d f ps qs h.1 g)
    (λ x l r.
    let same : x.from ≡ p = (to_listed n p qs x l).1 in
    let k = rises-low (suc p) c x.from ps h.1 (between_listed n ps qs x r).1 in omega arith)

-- an edge of a part has a node of the part
node_within : (e : Tree) (d : Edge) (n b s : ℕ) → numbered e n b s ≡ true → OneOf (follow_edges e) d → (n ≤ d.node) ×
    (d.node < n + visit_count e)
node_within e d n b s g h = let r = follow_listed e d h in let f = node_found (node_of r.3) n b s g in (f.low, f.high)

-- of three lists, no edge of one stands in another
distinct-three : (xs ys zs : List Edge) → Distinct xs → Distinct ys → Distinct zs
    → ((d : Edge) → OneOf xs d → OneOf ys d → ⊥) → ((d : Edge) → OneOf xs d → OneOf zs d → ⊥)
    → ((d : Edge) → OneOf ys d → OneOf zs d → ⊥) → Distinct (xs ++ (ys ++ zs))
distinct-three xs ys zs a b c first second third =
    distinct-append xs (ys ++ zs) a (distinct-append ys zs b c third)
    (λ d l r. elim (one_of-cases ys zs d r) [ inl m ↦ first d l m | inr m ↦ second d l m ])

-- an edge by the node itself isn't one of a part
own_node : (n : ℕ) (ps qs : List ℕ) (d : Edge) → OneOf (edges_between n ps qs) d → d.node ≡ n
own_node n ps qs d h = (between_listed n ps qs d h).0

pub follow_edges-distinct : (e : Tree) (n b s : ℕ) → numbered e n b s ≡ true → Distinct (follow_edges e)
follow_edges-distinct (Empty at) n b s g = tt
follow_edges-distinct (Terminal at p t) n b s g = tt
follow_edges-distinct (Action at a) n b s g = tt
follow_edges-distinct (Seq at e f) n b s g =
    let c = pair_parts at e f n b s g in
    let own : at.number ≡ n = c.own in
    let in_left : (d : Edge) → OneOf (follow_edges e) d → (n + 1 ≤ d.node) × (d.node < n + 1 + visit_count e) =
    λ d l. node_within e d (n + 1) b s c.left l in
    let in_right : (d : Edge) → OneOf (follow_edges f) d
    → (n + 1 + visit_count e ≤ d.node) × (d.node < n + 1 + visit_count e + visit_count f) =
    λ d r. node_within f d (n + 1 + visit_count e) (b + place_count e) (s + scope_count e) c.right r in
    distinct-three (follow_edges e) (follow_edges f) (edges_between at.number (last_places e) (first_places f))
    (follow_edges-distinct e (n + 1) b s c.left)
    (follow_edges-distinct f (n + 1 + visit_count e) (b + place_count e) (s + scope_count e) c.right)
    (distinct_between at.number b (b + place_count e) (b + place_count e) (b + place_count e + place_count f)
    (last_places e) (first_places f) (last_places-rise e (n + 1) b s c.left)
    (first_places-rise f (n + 1 + visit_count e) (b + place_count e) (s + scope_count e) c.right))
    (λ d l r. let u = in_left d l in let w = in_right d r in omega arith)
    (λ d l r. let u = in_left d l in let w = own_node at.number (last_places e) (first_places f) d r in omega arith)
    (λ d l r. let u = in_right d l in let w = own_node at.number (last_places e) (first_places f) d r in omega arith)
follow_edges-distinct (Choice at e f) n b s g =
    let c = pair_parts at e f n b s g in
    distinct-append (follow_edges e) (follow_edges f) (follow_edges-distinct e (n + 1) b s c.left)
    (follow_edges-distinct f (n + 1 + visit_count e) (b + place_count e) (s + scope_count e) c.right)
    (λ d l r.
    let u = node_within e d (n + 1) b s c.left l in
    let w = node_within f d (n + 1 + visit_count e) (b + place_count e) (s + scope_count e) c.right r in
    omega arith)
follow_edges-distinct (Star at e) n b s g =
    let p = and_parts (nat_eq at.number n) (numbered e (n + 1) b s) g in
    let own : at.number ≡ n = eqb-true at.number n p.0 in
    distinct-append (follow_edges e) (edges_between at.number (last_places e) (first_places e))
    (follow_edges-distinct e (n + 1) b s p.1)
    (distinct_between at.number b (b + place_count e) b (b + place_count e) (last_places e) (first_places e)
    (last_places-rise e (n + 1) b s p.1) (first_places-rise e (n + 1) b s p.1))
    (λ d l r.
    let u = node_within e d (n + 1) b s p.1 l in
    let w = own_node at.number (last_places e) (first_places e) d r in omega arith)
follow_edges-distinct (Hold at t e) n b s g =
    follow_edges-distinct e (n + 1) b s (and_parts (nat_eq at.number n) (numbered e (n + 1) b s) g).1
follow_edges-distinct (Scope at t e x h) n b s g =
    let c = scope_parts at t e x h n b s g in
    let own : at.number ≡ n = c.own in
    let own_edges : List Edge = edges_between at.number (last_places x) (first_places h) in
    let in_body : (d : Edge) → OneOf (follow_edges e) d → (n + 1 ≤ d.node) × (d.node < n + 1 + visit_count e) =
    λ d l. node_within e d (n + 1) b (1 + s) c.body l in
    let in_trap : (d : Edge) → OneOf (follow_edges x) d
    → (n + 1 + visit_count e ≤ d.node) × (d.node < n + 1 + visit_count e + visit_count x) =
    λ d l. node_within x d (n + 1 + visit_count e) (b + place_count e) (1 + s + scope_count e) c.trap l in
    let in_after : (d : Edge) → OneOf (follow_edges h) d → (n + 1 + visit_count e + visit_count x ≤ d.node)
    × (d.node < n + 1 + visit_count e + visit_count x + visit_count h) =
    λ d l. node_within h d (n + 1 + visit_count e + visit_count x) (b + place_count e + place_count x)
    (1 + s + scope_count e + scope_count x) c.after l in
    let here : (d : Edge) → OneOf own_edges d → d.node ≡ at.number =
    λ d l. own_node at.number (last_places x) (first_places h) d l in
    let rest : Distinct (follow_edges x ++ (follow_edges h ++ own_edges)) =
    distinct-three (follow_edges x) (follow_edges h) own_edges
    (follow_edges-distinct x (n + 1 + visit_count e) (b + place_count e) (1 + s + scope_count e) c.trap)
    (follow_edges-distinct h (n + 1 + visit_count e + visit_count x) (b + place_count e + place_count x)
    (1 + s + scope_count e + scope_count x) c.after)
    (distinct_between at.number (b + place_count e) (b + place_count e + place_count x)
    (b + place_count e + place_count x) (b + place_count e + place_count x + place_count h)
    (last_places x) (first_places h)
    (last_places-rise x (n + 1 + visit_count e) (b + place_count e) (1 + s + scope_count e) c.trap)
    (first_places-rise h (n + 1 + visit_count e + visit_count x) (b + place_count e + place_count x)
    (1 + s + scope_count e + scope_count x) c.after))
    (λ d l r. let u = in_trap d l in let w = in_after d r in omega arith)
    (λ d l r. let u = in_trap d l in let w = here d r in omega arith)
    (λ d l r. let u = in_after d l in let w = here d r in omega arith) in
    distinct-append (follow_edges e) (follow_edges x ++ (follow_edges h ++ own_edges))
    (follow_edges-distinct e (n + 1) b (1 + s) c.body) rest
    (λ d l r. elim (one_of-cases (follow_edges x) (follow_edges h ++ own_edges) d r) [
      | inl y ↦ let u = in_body d l in let w = in_trap d y in omega arith
      | inr z ↦ elim (one_of-cases (follow_edges h) own_edges d z) [
        | inl y ↦ let u = in_body d l in let w = in_after d y in omega arith
        | inr y ↦ let u = in_body d l in let w = here d y in omega arith
      ]
    ])
