-- In a numbered tree the three numbers of a follow edge tell the scopes that it has to do with.
use Rattle.std.proofs.Common.{◌≡◌, ℕ, ◌+◌, ◌<◌, ◌≤◌, Bool, true, cond, ◌&&◌, List, [], ◌∷◌, ◌++◌, arith, refl, ◌∙◌, ap}
use Rattle.std.specs.Prelude.{nat_eq, nat_lt}
use Rattle.std.proofs.lemmas.Bool.{eqb-true, eq-eqb, ne_eqb, and_parts, lt-ltb, le-ltb, cond-true, cond-false}
use Rattle.bool_terms.specs.Terms.{Term}
use Rattle.pbs_ast.specs.Trees.{Spot, Tree, Terminal, Seq, Choice, Star, Hold, Scope}
use Rattle.pbs_ast.specs.Sound.{visit_count, place_count, scope_count}
use Rattle.pbs_edges.proofs.Numbering.{numbered}
use Rattle.pbs_edges.proofs.Numbering.{IsNumbered}
use Rattle.pbs_edges.specs.inner.Rounds.{place_rounds, node_rounds}
use Rattle.pbs_edges.specs.Edges.{Round, Body, Trap, First, first_terminal, first_left, first_right, first_either}
use Rattle.pbs_edges.specs.Edges.{first_or, first_star, first_hold, first_body, first_trap, Last, last_terminal}
use Rattle.pbs_edges.specs.Edges.{last_right, last_left, last_either, last_or, last_star, last_hold, last_body}
use Rattle.pbs_edges.specs.Edges.{last_after, last_trap, Follow, follow_seq, follow_star, follow_scope, within_left}
use Rattle.pbs_edges.specs.Edges.{within_right, within_either, within_or, within_star, within_hold, within_body}
use Rattle.pbs_edges.specs.Edges.{within_trap, within_after}

-- the numbers of the parts
pub record PairParts (at : Spot) (e f : Tree) (n p s : ℕ) : Type 0 where
  pub own : at.number ≡ n
  pub left : numbered e (n + 1) p s ≡ true
  pub right : numbered f (n + 1 + visit_count e) (p + place_count e) (s + scope_count e) ≡ true

pub pair_parts : (at : Spot) (e f : Tree) (n p s : ℕ)
    → (nat_eq at.number n &&
    (numbered e (n + 1) p s && numbered f (n + 1 + visit_count e) (p + place_count e) (s + scope_count e))) ≡ true
    → PairParts at e f n p s
pair_parts at e f n p s g =
    let a = and_parts (nat_eq at.number n)
    (numbered e (n + 1) p s && numbered f (n + 1 + visit_count e) (p + place_count e) (s + scope_count e)) g in
    let b = and_parts (numbered e (n + 1) p s)
    (numbered f (n + 1 + visit_count e) (p + place_count e) (s + scope_count e)) a.1 in
    record { own = eqb-true at.number n a.0; left = b.0; right = b.1 }

pub record ScopeParts (at : Spot) (r : ℕ) (e x h : Tree) (n p s : ℕ) : Type 0 where
  pub own : at.number ≡ n
  pub scope : r ≡ s
  pub body : numbered e (n + 1) p (1 + s) ≡ true
  pub trap : numbered x (n + 1 + visit_count e) (p + place_count e) (1 + s + scope_count e) ≡ true
  pub after : numbered h (n + 1 + visit_count e + visit_count x) (p + place_count e + place_count x)
      (1 + s + scope_count e + scope_count x) ≡ true

pub scope_parts : (at : Spot) (r : ℕ) (e x h : Tree) (n p s : ℕ) → numbered (Scope at r e x h) n p s ≡ true
    → ScopeParts at r e x h n p s
scope_parts at r e x h n p s g =
    let body : Bool = numbered e (n + 1) p (1 + s) in
    let trap : Bool = numbered x (n + 1 + visit_count e) (p + place_count e) (1 + s + scope_count e) in
    let after : Bool = numbered h (n + 1 + visit_count e + visit_count x) (p + place_count e + place_count x)
    (1 + s + scope_count e + scope_count x) in
    let a = and_parts (nat_eq at.number n) (nat_eq r s && (body && (trap && after))) g in
    let b = and_parts (nat_eq r s) (body && (trap && after)) a.1 in
    let c = and_parts body (trap && after) b.1 in
    let d = and_parts trap after c.1 in
    record { own = eqb-true at.number n a.0; scope = eqb-true r s b.0; body = c.0; trap = d.0; after = d.1 }

-- place p of the tree lies in the scopes rs
pub data Place : Tree → ℕ → List Round → Type 0 where
  place_here : {at : Spot} {p : ℕ} {t : Term} → Place (Terminal at p t) p []
  place_left : {at : Spot} {p : ℕ} {rs : List Round} {e f : Tree} → Place e p rs → Place (Seq at e f) p rs
  place_right : {at : Spot} {p : ℕ} {rs : List Round} {e f : Tree} → Place f p rs → Place (Seq at e f) p rs
  place_either : {at : Spot} {p : ℕ} {rs : List Round} {e f : Tree} → Place e p rs → Place (Choice at e f) p rs
  place_or : {at : Spot} {p : ℕ} {rs : List Round} {e f : Tree} → Place f p rs → Place (Choice at e f) p rs
  place_star : {at : Spot} {p : ℕ} {rs : List Round} {e : Tree} → Place e p rs → Place (Star at e) p rs
  place_hold : {at : Spot} {p : ℕ} {rs : List Round} {t : Term} {e : Tree} → Place e p rs → Place (Hold at t e) p rs
  place_body : {at : Spot} {p s : ℕ} {rs : List Round} {e x h : Tree} → Place e p rs → Place (Scope at s e x h) p
      (Body s ∷ rs)
  place_trap : {at : Spot} {p s : ℕ} {rs : List Round} {e x h : Tree} → Place x p rs → Place (Scope at s e x h) p
      (Trap s ∷ rs)
  place_after : {at : Spot} {p s : ℕ} {rs : List Round} {e x h : Tree} → Place h p rs → Place (Scope at s e x h) p rs

-- a sequence, a star or a scope, numbered m, lies in the bodies and traps rs
pub data Node : Tree → ℕ → List Round → Type 0 where
  node_seq : {at : Spot} {e f : Tree} → Node (Seq at e f) at.number []
  node_star : {at : Spot} {e : Tree} → Node (Star at e) at.number []
  node_scope : {at : Spot} {s : ℕ} {e x h : Tree} → Node (Scope at s e x h) at.number []
  in_left : {at : Spot} {m : ℕ} {rs : List Round} {e f : Tree} → Node e m rs → Node (Seq at e f) m rs
  in_right : {at : Spot} {m : ℕ} {rs : List Round} {e f : Tree} → Node f m rs → Node (Seq at e f) m rs
  in_either : {at : Spot} {m : ℕ} {rs : List Round} {e f : Tree} → Node e m rs → Node (Choice at e f) m rs
  in_or : {at : Spot} {m : ℕ} {rs : List Round} {e f : Tree} → Node f m rs → Node (Choice at e f) m rs
  in_star : {at : Spot} {m : ℕ} {rs : List Round} {e : Tree} → Node e m rs → Node (Star at e) m rs
  in_hold : {at : Spot} {m : ℕ} {rs : List Round} {t : Term} {e : Tree} → Node e m rs → Node (Hold at t e) m rs
  in_body : {at : Spot} {m s : ℕ} {rs : List Round} {e x h : Tree} → Node e m rs → Node (Scope at s e x h) m
      (Body s ∷ rs)
  in_trap : {at : Spot} {m s : ℕ} {rs : List Round} {e x h : Tree} → Node x m rs → Node (Scope at s e x h) m
      (Trap s ∷ rs)
  in_after : {at : Spot} {m s : ℕ} {rs : List Round} {e x h : Tree} → Node h m rs → Node (Scope at s e x h) m rs

pub place_from_first : {e : Tree} {p : ℕ} {rs : List Round} → First e p rs → Place e p rs
place_from_first first_terminal = place_here
place_from_first (first_left h) = place_left (place_from_first h)
place_from_first (first_right c h) = place_right (place_from_first h)
place_from_first (first_either h) = place_either (place_from_first h)
place_from_first (first_or h) = place_or (place_from_first h)
place_from_first (first_star h) = place_star (place_from_first h)
place_from_first (first_hold h) = place_hold (place_from_first h)
place_from_first (first_body h) = place_body (place_from_first h)
place_from_first (first_trap h) = place_trap (place_from_first h)

pub place_from_last : {e : Tree} {p : ℕ} {rs : List Round} → Last e p rs → Place e p rs
place_from_last last_terminal = place_here
place_from_last (last_right h) = place_right (place_from_last h)
place_from_last (last_left h c) = place_left (place_from_last h)
place_from_last (last_either h) = place_either (place_from_last h)
place_from_last (last_or h) = place_or (place_from_last h)
place_from_last (last_star h) = place_star (place_from_last h)
place_from_last (last_hold h) = place_hold (place_from_last h)
place_from_last (last_body h) = place_body (place_from_last h)
place_from_last (last_after h) = place_after (place_from_last h)
place_from_last (last_trap h c) = place_trap (place_from_last h)

-- the place that is left lies in the scopes round the node and in those at or below it
pub place_left_by : {e : Tree} {p q n : ℕ} {rs ls fs : List Round} → Follow e p q n rs ls fs → Place e p (rs ++ ls)
place_left_by (follow_seq l f) = place_left (place_from_last l)
place_left_by (follow_star l f) = place_star (place_from_last l)
place_left_by (follow_scope l f) = place_trap (place_from_last l)
place_left_by (within_left h) = place_left (place_left_by h)
place_left_by (within_right h) = place_right (place_left_by h)
place_left_by (within_either h) = place_either (place_left_by h)
place_left_by (within_or h) = place_or (place_left_by h)
place_left_by (within_star h) = place_star (place_left_by h)
place_left_by (within_hold h) = place_hold (place_left_by h)
place_left_by (within_body h) = place_body (place_left_by h)
place_left_by (within_trap h) = place_trap (place_left_by h)
place_left_by (within_after h) = place_after (place_left_by h)

-- the place that is reached lies in the scopes round the node and in those that are entered
pub place_reached_by : {e : Tree} {p q n : ℕ} {rs ls fs : List Round} → Follow e p q n rs ls fs → Place e q (rs ++ fs)
place_reached_by (follow_seq l f) = place_right (place_from_first f)
place_reached_by (follow_star l f) = place_star (place_from_first f)
place_reached_by (follow_scope l f) = place_after (place_from_first f)
place_reached_by (within_left h) = place_left (place_reached_by h)
place_reached_by (within_right h) = place_right (place_reached_by h)
place_reached_by (within_either h) = place_either (place_reached_by h)
place_reached_by (within_or h) = place_or (place_reached_by h)
place_reached_by (within_star h) = place_star (place_reached_by h)
place_reached_by (within_hold h) = place_hold (place_reached_by h)
place_reached_by (within_body h) = place_body (place_reached_by h)
place_reached_by (within_trap h) = place_trap (place_reached_by h)
place_reached_by (within_after h) = place_after (place_reached_by h)

pub node_of : {e : Tree} {p q n : ℕ} {rs ls fs : List Round} → Follow e p q n rs ls fs → Node e n rs
node_of (follow_seq l f) = node_seq
node_of (follow_star l f) = node_star
node_of (follow_scope l f) = node_scope
node_of (within_left h) = in_left (node_of h)
node_of (within_right h) = in_right (node_of h)
node_of (within_either h) = in_either (node_of h)
node_of (within_or h) = in_or (node_of h)
node_of (within_star h) = in_star (node_of h)
node_of (within_hold h) = in_hold (node_of h)
node_of (within_body h) = in_body (node_of h)
node_of (within_trap h) = in_trap (node_of h)
node_of (within_after h) = in_after (node_of h)

-- place p is one of the tree's, and its number tells the scopes round it
pub record PlaceFound (e : Tree) (b p : ℕ) (rs : List Round) : Type 0 where
  pub low : b ≤ p
  pub high : p < b + place_count e
  pub rounds : place_rounds e b p ≡ rs

-- the place lies in the left one of two parts, or in the right one
in_first : {A : Type 0} (p m : ℕ) (x y z : A) → p < m → x ≡ z → cond (nat_lt p m) x y ≡ z
in_first p m x y z l e = cond-true (nat_lt p m) x y (lt-ltb p m l) ∙ e

in_later : {A : Type 0} (p m : ℕ) (x y z : A) → m ≤ p → y ≡ z → cond (nat_lt p m) x y ≡ z
in_later p m x y z l e = cond-false (nat_lt p m) x y (le-ltb p m l) ∙ e

pub place_found : {e : Tree} {p : ℕ} {rs : List Round} → Place e p rs → (n b s : ℕ) → numbered e n b s ≡ true
    → PlaceFound e b p rs
place_found (place_here {at = at} {p = q}) n b s g =
    let own : q ≡ b = eqb-true q b (and_parts (nat_eq at.number n) (nat_eq q b) g).1 in
    record { low = omega arith; high = omega arith; rounds = refl }
place_found {p = p} (place_left {at = at} {rs = rs} {e = e} {f = f} h) n b s g =
    let c = pair_parts at e f n b s g in
    let r = place_found h (n + 1) b s c.left in
    record {
      low = r.low;
      high = let u = r.high in omega arith;
      rounds = in_first p
          (b + place_count e) _ _ rs r.high r.rounds;
    }
place_found {p = p} (place_right {at = at} {rs = rs} {e = e} {f = f} h) n b s g =
    let c = pair_parts at e f n b s g in
    let r = place_found h (n + 1 + visit_count e) (b + place_count e) (s + scope_count e) c.right in
    record {
      low = let u = r.low in omega arith;
      high = let u = r.high in omega arith;
      rounds = in_later p
          (b + place_count e) _ _ rs r.low r.rounds;
    }
place_found {p = p} (place_either {at = at} {rs = rs} {e = e} {f = f} h) n b s g =
    let c = pair_parts at e f n b s g in
    let r = place_found h (n + 1) b s c.left in
    record {
      low = r.low;
      high = let u = r.high in omega arith;
      rounds = in_first p
          (b + place_count e) _ _ rs r.high r.rounds;
    }
place_found {p = p} (place_or {at = at} {rs = rs} {e = e} {f = f} h) n b s g =
    let c = pair_parts at e f n b s g in
    let r = place_found h (n + 1 + visit_count e) (b + place_count e) (s + scope_count e) c.right in
    record {
      low = let u = r.low in omega arith;
      high = let u = r.high in omega arith;
      rounds = in_later p
          (b + place_count e) _ _ rs r.low r.rounds;
    }
place_found (place_star {at = at} {e = e} h) n b s g =
    let r = place_found h (n + 1) b s (and_parts (nat_eq at.number n) (numbered e (n + 1) b s) g).1 in
    record { low = r.low; high = r.high; rounds = r.rounds }
place_found (place_hold {at = at} {e = e} h) n b s g =
    let r = place_found h (n + 1) b s (and_parts (nat_eq at.number n) (numbered e (n + 1) b s) g).1 in
    record { low = r.low; high = r.high; rounds = r.rounds }
place_found {p = p} (place_body {at = at} {s = t} {rs = rs} {e = e} {x = x} {h = h} d) n b s g =
    let c = scope_parts at t e x h n b s g in
    let r = place_found d (n + 1) b (1 + s) c.body in
    record {
      low = r.low;
      high = let u = r.high in omega arith;
      rounds = in_first p (b + place_count e) _ _
          (Body t ∷ rs) r.high (ap (λ qs. Body t ∷ qs) r.rounds);
    }
place_found {p = p} (place_trap {at = at} {s = t} {rs = rs} {e = e} {x = x} {h = h} d) n b s g =
    let c = scope_parts at t e x h n b s g in
    let r = place_found d (n + 1 + visit_count e) (b + place_count e) (1 + s + scope_count e) c.trap in
    record {
      low = let u = r.low in omega arith;
      high = let u = r.high in omega arith;
      rounds = in_later p (b + place_count e) _ _ (Trap t ∷ rs) r.low
          (in_first p (b + place_count e + place_count x) _ _ (Trap t ∷ rs) r.high (ap (λ qs. Trap t ∷ qs) r.rounds));
    }
place_found {p = p} (place_after {at = at} {s = t} {rs = rs} {e = e} {x = x} {h = h} d) n b s g =
    let c = scope_parts at t e x h n b s g in
    let r = place_found d (n + 1 + visit_count e + visit_count x) (b + place_count e + place_count x)
    (1 + s + scope_count e + scope_count x) c.after in
    let low : b + place_count e + place_count x ≤ p = r.low in
    record {
      low = omega arith;
      high = let u = r.high in omega arith;
      rounds = in_later p (b + place_count e) _ _ rs (omega arith)
          (in_later p (b + place_count e + place_count x) _ _ rs low r.rounds);
    }

-- node m is one of the tree's, and its number tells the scopes round it
pub record NodeFound (e : Tree) (b m : ℕ) (rs : List Round) : Type 0 where
  pub low : b ≤ m
  pub high : m < b + visit_count e
  pub rounds : node_rounds e b m ≡ rs

-- the node is the tree's own, or another one
own_node : {A : Type 0} (m b : ℕ) (x y : A) → m ≡ b → cond (nat_eq m b) x y ≡ x
own_node m b x y e = cond-true (nat_eq m b) x y (eq-eqb m b e)

other_node : {A : Type 0} (m b : ℕ) (x y z : A) → b < m → y ≡ z → cond (nat_eq m b) x y ≡ z
other_node m b x y z l e = cond-false (nat_eq m b) x y (ne_eqb m b (λ f. omega arith)) ∙ e

pub node_found : {e : Tree} {m : ℕ} {rs : List Round} → Node e m rs → (b p s : ℕ) → numbered e b p s ≡ true
    → NodeFound e b m rs
node_found (node_seq {at = at} {e = e} {f = f}) b p s g =
    let c = pair_parts at e f b p s g in let own = c.own in
    record { low = omega arith; high = omega arith; rounds = own_node at.number b _ _ own }
node_found (node_star {at = at} {e = e}) b p s g =
    let own : at.number ≡ b = eqb-true at.number b (and_parts (nat_eq at.number b) (numbered e (b + 1) p s) g).0 in
    record { low = omega arith; high = omega arith; rounds = own_node at.number b _ _ own }
node_found (node_scope {at = at} {s = t} {e = e} {x = x} {h = h}) b p s g =
    let c = scope_parts at t e x h b p s g in let own = c.own in
    record { low = omega arith; high = omega arith; rounds = own_node at.number b _ _ own }
node_found {m = m} (in_left {at = at} {rs = rs} {e = e} {f = f} d) b p s g =
    let c = pair_parts at e f b p s g in
    let r = node_found d (b + 1) p s c.left in
    let low : b + 1 ≤ m = r.low in
    let high : m < b + 1 + visit_count e = r.high in
    record {
      low = omega arith;
      high = omega arith;
      rounds = other_node m b _ _ rs (omega arith)
          (in_first m (b + 1 + visit_count e) _ _ rs high r.rounds);
    }
node_found {m = m} (in_right {at = at} {rs = rs} {e = e} {f = f} d) b p s g =
    let c = pair_parts at e f b p s g in
    let r = node_found d (b + 1 + visit_count e) (p + place_count e) (s + scope_count e) c.right in
    let low : b + 1 + visit_count e ≤ m = r.low in
    record {
      low = omega arith;
      high = let u = r.high in omega arith;
      rounds = other_node m b _ _ rs (omega arith) (in_later m (b + 1 + visit_count e) _ _ rs low r.rounds);
    }
node_found {m = m} (in_either {at = at} {rs = rs} {e = e} {f = f} d) b p s g =
    let c = pair_parts at e f b p s g in
    let r = node_found d (b + 1) p s c.left in
    let low : b + 1 ≤ m = r.low in
    let high : m < b + 1 + visit_count e = r.high in
    record {
      low = omega arith;
      high = omega arith;
      rounds = other_node m b _ _ rs (omega arith)
          (in_first m (b + 1 + visit_count e) _ _ rs high r.rounds);
    }
node_found {m = m} (in_or {at = at} {rs = rs} {e = e} {f = f} d) b p s g =
    let c = pair_parts at e f b p s g in
    let r = node_found d (b + 1 + visit_count e) (p + place_count e) (s + scope_count e) c.right in
    let low : b + 1 + visit_count e ≤ m = r.low in
    record {
      low = omega arith;
      high = let u = r.high in omega arith;
      rounds = other_node m b _ _ rs (omega arith) (in_later m (b + 1 + visit_count e) _ _ rs low r.rounds);
    }
node_found {m = m} (in_star {at = at} {rs = rs} {e = e} d) b p s g =
    let r = node_found d (b + 1) p s (and_parts (nat_eq at.number b) (numbered e (b + 1) p s) g).1 in
    let low : b + 1 ≤ m = r.low in
    record {
      low = omega arith;
      high = let u = r.high in omega arith;
      rounds = other_node m b _ _ rs
          (omega arith) r.rounds;
    }
node_found {m = m} (in_hold {at = at} {rs = rs} {e = e} d) b p s g =
    let r = node_found d (b + 1) p s (and_parts (nat_eq at.number b) (numbered e (b + 1) p s) g).1 in
    let low : b + 1 ≤ m = r.low in
    record {
      low = omega arith;
      high = let u = r.high in omega arith;
      rounds = other_node m b _ _ rs
          (omega arith) r.rounds;
    }
node_found {m = m} (in_body {at = at} {s = t} {rs = rs} {e = e} {x = x} {h = h} d) b p s g =
    let c = scope_parts at t e x h b p s g in
    let r = node_found d (b + 1) p (1 + s) c.body in
    let low : b + 1 ≤ m = r.low in
    let high : m < b + 1 + visit_count e = r.high in
    record {
      low = omega arith;
      high = omega arith;
      rounds = other_node m b _ _ (Body t ∷ rs) (omega arith)
          (in_first m (b + 1 + visit_count e) _ _ (Body t ∷ rs) high (ap (λ qs. Body t ∷ qs) r.rounds));
    }
node_found {m = m} (in_trap {at = at} {s = t} {rs = rs} {e = e} {x = x} {h = h} d) b p s g =
    let c = scope_parts at t e x h b p s g in
    let r = node_found d (b + 1 + visit_count e) (p + place_count e) (1 + s + scope_count e) c.trap in
    let low : b + 1 + visit_count e ≤ m = r.low in
    let high : m < b + 1 + visit_count e + visit_count x = r.high in
    record {
      low = omega arith;
      high = omega arith;
      rounds = other_node m b _ _ (Trap t ∷ rs) (omega arith) (in_later m (b + 1 + visit_count e) _ _ (Trap t ∷ rs) low
          (in_first m (b + 1 + visit_count e + visit_count x) _ _ (Trap t ∷ rs) high
          (ap (λ qs. Trap t ∷ qs) r.rounds)));
    }
node_found {m = m} (in_after {at = at} {s = t} {rs = rs} {e = e} {x = x} {h = h} d) b p s g =
    let c = scope_parts at t e x h b p s g in
    let r = node_found d (b + 1 + visit_count e + visit_count x) (p + place_count e + place_count x)
    (1 + s + scope_count e + scope_count x) c.after in
    let low : b + 1 + visit_count e + visit_count x ≤ m = r.low in
    record {
      low = omega arith;
      high = let u = r.high in omega arith;
      rounds = other_node m b _ _ rs (omega arith)
          (in_later m (b + 1 + visit_count e) _ _ rs (omega arith)
          (in_later m (b + 1 + visit_count e + visit_count x) _ _ rs low r.rounds));
    }

-- the three lists of an edge, told by its numbers
pub record EdgeRounds (main : Tree) (p q n : ℕ) (rs ls fs : List Round) : Type 0 where
  pub above : node_rounds main 0 n ≡ rs
  pub left : place_rounds main 0 p ≡ rs ++ ls
  pub entered : place_rounds main 0 q ≡ rs ++ fs

pub edge_rounds : {main : Tree} {p q n : ℕ} {rs ls fs : List Round} → IsNumbered main → Follow main p q n rs ls fs
    → EdgeRounds main p q n rs ls fs
edge_rounds g f = record {
  above = (node_found (node_of f) 0 0 0 g).rounds;
  left = (place_found (place_left_by f) 0 0 0 g).rounds;
  entered = (place_found (place_reached_by f) 0 0 0 g).rounds;
}
