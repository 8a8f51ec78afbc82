-- A tree whose nodes, places and scopes are numbered, each in order of visits.
use Rattle.std.proofs.Common.{◌≡◌, ℕ, ◌+◌, Bool, true, ◌&&◌}
use Rattle.std.specs.Prelude.{nat_eq}
use Rattle.std.proofs.lemmas.Bool.{and_parts, and_from}
use Rattle.pbs_ast.specs.Trees.{Spot, Tree, Empty, Terminal, Action, Seq, Choice, Star, Hold, Scope}
use Rattle.pbs_ast.specs.Sound.{visit_count, place_count, scope_count, nodes_from, places_from, scopes_from, IsCounted}

-- the nodes are numbered from n, the places from p and the scopes from s
abbrev pub numbered : Tree → (n p s : ℕ) → Bool
numbered (Empty at) n p s = nat_eq at.number n
numbered (Terminal at q t) n p s = nat_eq at.number n && nat_eq q p
numbered (Action at a) n p s = nat_eq at.number n
numbered (Seq at e f) n p s = nat_eq at.number n && (numbered e (n + 1) p s
    && numbered f (n + 1 + visit_count e) (p + place_count e) (s + scope_count e))
numbered (Choice at e f) n p s = nat_eq at.number n && (numbered e (n + 1) p s
    && numbered f (n + 1 + visit_count e) (p + place_count e) (s + scope_count e))
numbered (Star at e) n p s = nat_eq at.number n && numbered e (n + 1) p s
numbered (Hold at t e) n p s = nat_eq at.number n && numbered e (n + 1) p s
numbered (Scope at r e x h) n p s = nat_eq at.number n && (nat_eq r s && (numbered e (n + 1) p (1 + s)
    && (numbered x (n + 1 + visit_count e) (p + place_count e) (1 + s + scope_count e)
    && numbered h (n + 1 + visit_count e + visit_count x) (p + place_count e + place_count x)
    (1 + s + scope_count e + scope_count x))))

abbrev pub IsNumbered : Tree → Type 0
IsNumbered main = numbered main 0 0 0 ≡ true

pair_from : (at : Spot) (e f : Tree) (n p s : ℕ)
    → ((n p s : ℕ) → nodes_from e n ≡ true → places_from e p ≡ true → scopes_from e s ≡ true → numbered e n p s ≡ true)
    → ((n p s : ℕ) → nodes_from f n ≡ true → places_from f p ≡ true → scopes_from f s ≡ true → numbered f n p s ≡ true)
    → nodes_from (Seq at e f) n ≡ true → places_from (Seq at e f) p ≡ true → scopes_from (Seq at e f) s ≡ true
    → numbered (Seq at e f) n p s ≡ true
pair_from at e f n p s left right a b c =
    let k = and_parts (nat_eq at.number n) (nodes_from e (n + 1) && nodes_from f (n + 1 + visit_count e)) a in
    let l = and_parts (nodes_from e (n + 1)) (nodes_from f (n + 1 + visit_count e)) k.1 in
    let q = and_parts (places_from e p) (places_from f (p + place_count e)) b in
    let r = and_parts (scopes_from e s) (scopes_from f (s + scope_count e)) c in
    and_from _ _ k.0 (and_from _ _ (left (n + 1) p s l.0 q.0 r.0)
    (right (n + 1 + visit_count e) (p + place_count e) (s + scope_count e) l.1 q.1 r.1))

pub numbered_from : (e : Tree) (n p s : ℕ) → nodes_from e n ≡ true → places_from e p ≡ true → scopes_from e s ≡ true
    → numbered e n p s ≡ true
numbered_from (Empty at) n p s a b c = a
numbered_from (Terminal at q t) n p s a b c = and_from _ _ a b
numbered_from (Action at x) n p s a b c = a
numbered_from (Seq at e f) n p s a b c = pair_from at e f n p s (numbered_from e) (numbered_from f) a b c
numbered_from (Choice at e f) n p s a b c = pair_from at e f n p s (numbered_from e) (numbered_from f) a b c
numbered_from (Star at e) n p s a b c =
    let k = and_parts (nat_eq at.number n) (nodes_from e (n + 1)) a in
    and_from _ _ k.0 (numbered_from e (n + 1) p s k.1 b c)
numbered_from (Hold at t e) n p s a b c =
    let k = and_parts (nat_eq at.number n) (nodes_from e (n + 1)) a in
    and_from _ _ k.0 (numbered_from e (n + 1) p s k.1 b c)
numbered_from (Scope at r e x h) n p s a b c =
    let k = and_parts (nat_eq at.number n) (nodes_from e (n + 1) && (nodes_from x (n + 1 + visit_count e)
    && nodes_from h (n + 1 + visit_count e + visit_count x))) a in
    let l = and_parts (nodes_from e (n + 1)) (nodes_from x (n + 1 + visit_count e)
    && nodes_from h (n + 1 + visit_count e + visit_count x)) k.1 in
    let m = and_parts (nodes_from x (n + 1 + visit_count e))
    (nodes_from h (n + 1 + visit_count e + visit_count x)) l.1 in
    let q = and_parts (places_from e p) (places_from x (p + place_count e)
    && places_from h (p + place_count e + place_count x)) b in
    let t = and_parts (places_from x (p + place_count e)) (places_from h (p + place_count e + place_count x)) q.1 in
    let u = and_parts (nat_eq r s) (scopes_from e (1 + s) && (scopes_from x (1 + s + scope_count e)
    && scopes_from h (1 + s + scope_count e + scope_count x))) c in
    let v = and_parts (scopes_from e (1 + s)) (scopes_from x (1 + s + scope_count e)
    && scopes_from h (1 + s + scope_count e + scope_count x)) u.1 in
    let w = and_parts (scopes_from x (1 + s + scope_count e))
    (scopes_from h (1 + s + scope_count e + scope_count x)) v.1 in
    and_from _ _ k.0 (and_from _ _ u.0 (and_from _ _ (numbered_from e (n + 1) p (1 + s) l.0 q.0 v.0)
    (and_from _ _ (numbered_from x (n + 1 + visit_count e) (p + place_count e) (1 + s + scope_count e) m.0 t.0 w.0)
    (numbered_from h (n + 1 + visit_count e + visit_count x) (p + place_count e + place_count x)
    (1 + s + scope_count e + scope_count x) m.1 t.1 w.1))))

pub is_numbered : (main : Tree) → IsCounted main → IsNumbered main
is_numbered main c = numbered_from main 0 0 0 c.nodes_numbered c.places_numbered c.scopes_numbered
