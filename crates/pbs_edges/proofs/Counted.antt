-- The counts of a tree from those of its parts.
use Rattle.std.proofs.Common.{◌≡◌, ℕ, ◌+◌, ◌*◌, ◌≤◌, ◌&&◌, min, Bool, true, false, cond, List, [], ◌∷◌, ◌++◌, length}
use Rattle.std.proofs.Common.{refl, sym, ◌∙◌, ap, arith, length-append}
use Rattle.pbs_ast.specs.Trees.{Spot, Tree, Seq, Star, Scope, nullable}
use Rattle.pbs_edges.specs.Listed.{first_places, last_places, follow_edges, edges_to, edges_between}
use Rattle.pbs_edges.specs.inner.Counting.{AreCounts}
use Rattle.pbs_edges.specs.declared.edge.Edge.{Edge}
use Rattle.pbs_edges.specs.declared.counts.Counts.{Counts}

length-to : (n p : ℕ) (qs : List ℕ) → length (edges_to n p qs) ≡ length qs
length-to n p [] = refl
length-to n p (q ∷ qs) = let e = length-to n p qs in omega arith

pub length-between : (n : ℕ) (ps qs : List ℕ) → length (edges_between n ps qs) ≡ length ps * length qs
length-between n [] qs = omega arith
length-between n (p ∷ ps) qs =
    let a = length-append (edges_to n p qs) (edges_between n ps qs) in
    let b = length-to n p qs in
    let c = length-between n ps qs in
    omega arith

length-when : (b : Bool) (xs : List ℕ) → length (cond b xs []) ≡ cond b (length xs) 0
length-when true xs = refl
length-when false xs = refl

when-le : (b : Bool) (n : ℕ) → cond b n 0 ≤ n
when-le true n = omega arith
when-le false n = omega arith

-- the capped sum of capped numbers
two_capped : (a b k x y : ℕ) → x ≡ min a 16385 → y ≡ min b 16385 → min (x + y + k) 16385 ≡ min (a + (b + k)) 16385
two_capped a b k x y e f = omega arith

three_capped : (a b d k x y z : ℕ) → x ≡ min a 16385 → y ≡ min b 16385 → z ≡ min d 16385
    → min (x + y + z + k) 16385 ≡ min (a + (b + (d + k))) 16385
three_capped a b d k x y z e f g = omega arith

one_capped : (a k x : ℕ) → x ≡ min a 16385 → min (x + k) 16385 ≡ min (a + k) 16385
one_capped a k x e = omega arith

length-two : (xs ys : List Edge) (n : ℕ) (ps qs : List ℕ) → length (xs ++ (ys ++ edges_between n ps qs))
    ≡ length xs + (length ys + length ps * length qs)
length-two xs ys n ps qs =
    let a = length-append xs (ys ++ edges_between n ps qs) in
    let b = length-append ys (edges_between n ps qs) in
    let c = length-between n ps qs in
    omega arith

pub seq_counts : (at : Spot) (e f : Tree) (c d r : Counts) → AreCounts e c → AreCounts f d
    → r.nullable ≡ (c.nullable && d.nullable) → r.firsts ≡ c.firsts + cond c.nullable d.firsts 0
    → r.lasts ≡ cond d.nullable c.lasts 0 + d.lasts
    → r.follows ≡ min (c.follows + d.follows + c.lasts * d.firsts) 16385 → AreCounts (Seq at e f) r
seq_counts at e f c d r x y empty first last more = record {
  nullable = let a = x.nullable in let b = y.nullable in cc;
  firsts =
      let a = length-append (first_places e) (cond (nullable e) (first_places f) []) in
      let b = length-when (nullable e) (first_places f) in
      let g = x.firsts in let h = y.firsts in let k = x.nullable in cc;
  lasts =
      let a = length-append (cond (nullable f) (last_places e) []) (last_places f) in
      let b = length-when (nullable f) (last_places e) in
      let g = x.lasts in let h = y.lasts in let k = y.nullable in cc;
  follows =
      let product : c.lasts * d.firsts ≡ length (last_places e) * length (first_places f) =
      let a = x.lasts in let b = y.firsts in cc in
      more ∙ two_capped (length (follow_edges e)) (length (follow_edges f)) (c.lasts * d.firsts) c.follows d.follows
      x.follows y.follows
      ∙ ap (λ k. min (length (follow_edges e) + (length (follow_edges f) + k)) 16385) product
      ∙ ap (λ k. min k 16385)
      (sym (length-two (follow_edges e) (follow_edges f) at.number (last_places e) (first_places f)));
  few_firsts = let a = when-le c.nullable d.firsts in let b = x.few_firsts in let h = y.few_firsts in omega arith;
  few_lasts = let a = when-le d.nullable c.lasts in let b = x.few_lasts in let h = y.few_lasts in omega arith;
}

pub star_counts : (at : Spot) (e : Tree) (c r : Counts) → AreCounts e c → r.nullable ≡ true → r.firsts ≡ c.firsts
    → r.lasts ≡ c.lasts → r.follows ≡ min (c.follows + c.lasts * c.firsts) 16385 → AreCounts (Star at e) r
star_counts at e c r x empty first last more = record {
  nullable = empty;
  firsts = first ∙ x.firsts;
  lasts = last ∙ x.lasts;
  follows =
      let product : c.lasts * c.firsts ≡ length (last_places e) * length (first_places e) =
      let a = x.lasts in let b = x.firsts in cc in
      let own = edges_between at.number (last_places e) (first_places e) in
      let size : length (follow_edges e ++ own) ≡ length (follow_edges e)
      + length (last_places e) * length (first_places e) =
      length-append (follow_edges e) own
      ∙ ap (λ k. length (follow_edges e) + k) (length-between at.number (last_places e) (first_places e)) in
      more ∙ one_capped (length (follow_edges e)) (c.lasts * c.firsts) c.follows x.follows
      ∙ ap (λ k. min (length (follow_edges e) + k) 16385) product ∙ ap (λ k. min k 16385) (sym size);
  few_firsts = let b = x.few_firsts in omega arith;
  few_lasts = let b = x.few_lasts in omega arith;
}

pub scope_counts : (at : Spot) (s : ℕ) (e x h : Tree) (c d g r : Counts) → AreCounts e c → AreCounts x d → AreCounts h g
    → r.nullable ≡ c.nullable → r.firsts ≡ c.firsts + d.firsts
    → r.lasts ≡ c.lasts + (cond g.nullable d.lasts 0 + g.lasts)
    → r.follows ≡ min (c.follows + d.follows + g.follows + d.lasts * g.firsts) 16385 → AreCounts (Scope at s e x h) r
scope_counts at s e x h c d g r body trap after empty first last more = record {
  nullable = empty ∙ body.nullable;
  firsts =
      let a = length-append (first_places e) (first_places x) in
      let b = body.firsts in let k = trap.firsts in cc;
  lasts =
      let a = length-append (last_places e) (cond (nullable h) (last_places x) [] ++ last_places h) in
      let b = length-append (cond (nullable h) (last_places x) []) (last_places h) in
      let k = length-when (nullable h) (last_places x) in
      let l = body.lasts in let m = trap.lasts in let n = after.lasts in let o = after.nullable in cc;
  follows =
      let product : d.lasts * g.firsts ≡ length (last_places x) * length (first_places h) =
      let a = trap.lasts in let b = after.firsts in cc in
      let own = edges_between at.number (last_places x) (first_places h) in
      let size : length (follow_edges e ++ (follow_edges x ++ (follow_edges h ++ own)))
      ≡ length (follow_edges e) + (length (follow_edges x)
      + (length (follow_edges h) + length (last_places x) * length (first_places h))) =
      length-append (follow_edges e) (follow_edges x ++ (follow_edges h ++ own))
      ∙ ap (λ k. length (follow_edges e) + k)
      (length-two (follow_edges x) (follow_edges h) at.number (last_places x) (first_places h)) in
      more ∙ three_capped (length (follow_edges e)) (length (follow_edges x)) (length (follow_edges h))
      (d.lasts * g.firsts) c.follows d.follows g.follows body.follows trap.follows after.follows
      ∙ ap (λ k. min (length (follow_edges e) +
      (length (follow_edges x) + (length (follow_edges h) + k))) 16385) product
      ∙ ap (λ k. min k 16385) (sym size);
  few_firsts = let b = body.few_firsts in let k = trap.few_firsts in omega arith;
  few_lasts =
      let a = when-le g.nullable d.lasts in
      let b = body.few_lasts in let k = trap.few_lasts in let l = after.few_lasts in omega arith;
}
