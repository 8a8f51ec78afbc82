-- The lists of first places, last places and follow edges hold exactly what the relations say.
use Rattle.std.proofs.Common.{◌≡◌, ℕ, Bool, true, cond, ◌⊎◌, inl, inr, List, [], ◌∷◌, ◌++◌, refl, sym, ap, subst}
use Rattle.std.proofs.lemmas.Bool.{cases_Bool, cond-true, cond-false}
use Rattle.pbs_ast.specs.Trees.{Tree, Empty, Terminal, Action, Seq, Choice, Star, Hold, Scope}
use Rattle.pbs_edges.specs.Listed.{first_places, last_places, edges_to, edges_between, follow_edges}
use Rattle.pbs_edges.specs.declared.edge.Edge.{Edge}
use Rattle.pbs_ast.specs.Trees.{nullable}
use Rattle.pbs_edges.specs.Edges.{Round, Body, Trap, First, first_terminal, first_left, first_right, first_either}
use Rattle.pbs_edges.specs.Edges.{first_or, first_star, first_hold, first_body, first_trap, Last, last_terminal}
use Rattle.pbs_edges.specs.Edges.{last_right, last_left, last_either, last_or, last_star, last_hold, last_body}
use Rattle.pbs_edges.specs.Edges.{last_after, last_trap, Follow, follow_seq, follow_star, follow_scope, within_left}
use Rattle.pbs_edges.specs.Edges.{within_right, within_either, within_or, within_star, within_hold, within_body}
use Rattle.pbs_edges.specs.Edges.{within_trap, within_after}

-- x is one of xs
abbrev pub OneOf : {A : Type 0} → List A → A → Type 0
OneOf [] x = ⊥
OneOf (y ∷ ys) x = (y ≡ x) ⊎ OneOf ys x

module _ {A : Type 0} where
  pub one_of-left : (xs ys : List A) (x : A) → OneOf xs x → OneOf (xs ++ ys) x
  one_of-left [] ys x h = absurd h
  one_of-left (y ∷ xs) ys x h = elim h [ inl e ↦ inl e | inr t ↦ inr (one_of-left xs ys x t) ]

  pub one_of-right : (xs ys : List A) (x : A) → OneOf ys x → OneOf (xs ++ ys) x
  one_of-right [] ys x h = h
  one_of-right (y ∷ xs) ys x h = inr (one_of-right xs ys x h)

  pub one_of-cases : (xs ys : List A) (x : A) → OneOf (xs ++ ys) x → OneOf xs x ⊎ OneOf ys x
  one_of-cases [] ys x h = inr h
  one_of-cases (y ∷ xs) ys x h = elim h [
    | inl e ↦ inl (inl e)
    | inr t ↦ elim (one_of-cases xs ys x t) [ inl l ↦ inl (inr l) | inr r ↦ inr r ]
  ]

  pub one_of-when : (b : Bool) (xs : List A) (x : A) → b ≡ true → OneOf xs x → OneOf (cond b xs []) x
  one_of-when b xs x e h = subst (λ ys. OneOf ys x) (sym (cond-true b xs [] e)) h

  pub one_of-if : (b : Bool) (xs : List A) (x : A) → OneOf (cond b xs []) x → (b ≡ true) × OneOf xs x
  one_of-if b xs x h = elim (cases_Bool b) [
    | inl e ↦ (e, subst (λ ys. OneOf ys x) (cond-true b xs [] e) h)
    | inr e ↦ absurd (subst (λ ys. OneOf ys x) (cond-false b xs [] e) h)
  ]

pub listed_first : {e : Tree} {p : ℕ} {rs : List Round} → First e p rs → OneOf (first_places e) p
listed_first first_terminal = inl refl
listed_first {p = p} (first_left {e = e} {f = f} h) = one_of-left (first_places e)
    (cond (nullable e) (first_places f) []) p (listed_first h)
listed_first {p = p} (first_right {e = e} {f = f} c h) = one_of-right (first_places e)
    (cond (nullable e) (first_places f) []) p
    (one_of-when (nullable e) (first_places f) p c (listed_first h))
listed_first {p = p} (first_either {e = e} {f = f} h) = one_of-left (first_places e) (first_places f) p (listed_first h)
listed_first {p = p} (first_or {e = e} {f = f} h) = one_of-right (first_places e) (first_places f) p (listed_first h)
listed_first (first_star h) = listed_first h
listed_first (first_hold h) = listed_first h
listed_first {p = p} (first_body {e = e} {x = x} h) = one_of-left (first_places e) (first_places x) p (listed_first h)
listed_first {p = p} (first_trap {e = e} {x = x} h) = one_of-right (first_places e) (first_places x) p (listed_first h)

pub first_listed : (e : Tree) (p : ℕ) → OneOf (first_places e) p → (rs : List Round) × First e p rs
first_listed (Empty at) p h = absurd h
first_listed (Terminal at q t) p h = elim h [
  | inl e ↦
      ([], subst (λ r. First (Terminal at q t) r []) e first_terminal)
  | inr z ↦ absurd z
]
first_listed (Action at a) p h = absurd h
first_listed (Seq at e f) p h = elim (one_of-cases (first_places e) (cond (nullable e) (first_places f) []) p h) [
  | inl l ↦ let r = first_listed e p l in (r.0, first_left r.1)
  | inr m ↦ let c = one_of-if (nullable e) (first_places f) p m in let r = first_listed f p c.1 in
      (r.0, first_right c.0 r.1)
]
first_listed (Choice at e f) p h = elim (one_of-cases (first_places e) (first_places f) p h) [
  | inl l ↦ let r = first_listed e p l in (r.0, first_either r.1)
  | inr m ↦ let r = first_listed f p m in (r.0, first_or r.1)
]
first_listed (Star at e) p h = let r = first_listed e p h in (r.0, first_star r.1)
first_listed (Hold at t e) p h = let r = first_listed e p h in (r.0, first_hold r.1)
first_listed (Scope at s e x h) p g = elim (one_of-cases (first_places e) (first_places x) p g) [
  | inl l ↦ let r = first_listed e p l in (Body s ∷ r.0, first_body r.1)
  | inr m ↦ let r = first_listed x p m in (Trap s ∷ r.0, first_trap r.1)
]

pub listed_last : {e : Tree} {p : ℕ} {rs : List Round} → Last e p rs → OneOf (last_places e) p
listed_last last_terminal = inl refl
listed_last {p = p} (last_right {e = e} {f = f} h) = one_of-right (cond (nullable f) (last_places e) [])
    (last_places f) p (listed_last h)
listed_last {p = p} (last_left {e = e} {f = f} h c) = one_of-left (cond (nullable f) (last_places e) [])
    (last_places f) p
    (one_of-when (nullable f) (last_places e) p c (listed_last h))
listed_last {p = p} (last_either {e = e} {f = f} h) = one_of-left (last_places e) (last_places f) p (listed_last h)
listed_last {p = p} (last_or {e = e} {f = f} h) = one_of-right (last_places e) (last_places f) p (listed_last h)
listed_last (last_star h) = listed_last h
listed_last (last_hold h) = listed_last h
listed_last {p = p} (last_body {e = e} {x = x} {h = h} l) = one_of-left (last_places e)
    (cond (nullable h) (last_places x) [] ++ last_places h) p (listed_last l)
listed_last {p = p} (last_after {e = e} {x = x} {h = h} l) = one_of-right (last_places e)
    (cond (nullable h) (last_places x) [] ++ last_places h) p
    (one_of-right (cond (nullable h) (last_places x) []) (last_places h) p (listed_last l))
listed_last {p = p} (last_trap {e = e} {x = x} {h = h} l c) = one_of-right (last_places e)
    (cond (nullable h) (last_places x) [] ++ last_places h) p
    (one_of-left (cond (nullable h) (last_places x) []) (last_places h) p
    (one_of-when (nullable h) (last_places x) p c (listed_last l)))

pub last_listed : (e : Tree) (p : ℕ) → OneOf (last_places e) p → (rs : List Round) × Last e p rs
last_listed (Empty at) p h = absurd h
last_listed (Terminal at q t) p h = elim h [
  | inl e ↦
      ([], subst (λ r. Last (Terminal at q t) r []) e last_terminal)
  | inr z ↦ absurd z
]
last_listed (Action at a) p h = absurd h
last_listed (Seq at e f) p h = elim (one_of-cases (cond (nullable f) (last_places e) []) (last_places f) p h) [
  | inl m ↦ let c = one_of-if (nullable f) (last_places e) p m in let r = last_listed e p c.1 in
      (r.0, last_left r.1 c.0)
  | inr l ↦ let r = last_listed f p l in (r.0, last_right r.1)
]
last_listed (Choice at e f) p h = elim (one_of-cases (last_places e) (last_places f) p h) [
  | inl l ↦ let r = last_listed e p l in (r.0, last_either r.1)
  | inr m ↦ let r = last_listed f p m in (r.0, last_or r.1)
]
last_listed (Star at e) p h = let r = last_listed e p h in (r.0, last_star r.1)
last_listed (Hold at t e) p h = let r = last_listed e p h in (r.0, last_hold r.1)
last_listed (Scope at s e x h) p g = elim
    (one_of-cases (last_places e) (cond (nullable h) (last_places x) [] ++ last_places h) p g) [
      | inl l ↦ let r = last_listed e p l in (Body s ∷ r.0, last_body r.1)
      | inr m ↦ elim (one_of-cases (cond (nullable h) (last_places x) []) (last_places h) p m) [
        | inl k ↦ let c = one_of-if (nullable h) (last_places x) p k in let r = last_listed x p c.1 in
            (Trap s ∷ r.0, last_trap r.1 c.0)
        | inr k ↦ let r = last_listed h p k in (r.0, last_after r.1)
      ]
    ]

-- the edge with these numbers
abbrev pub numbers : ℕ → ℕ → ℕ → Edge
numbers p q n = record { from = p; to = q; node = n }

listed_to : (n p : ℕ) (qs : List ℕ) (q : ℕ) → OneOf qs q → OneOf (edges_to n p qs) (numbers p q n)
listed_to n p [] q h = absurd h
listed_to n p (r ∷ qs) q h = elim h [ inl e ↦ inl (ap (λ x. numbers p x n) e) | inr t ↦ inr (listed_to n p qs q t) ]

listed_between : (n : ℕ) (ps qs : List ℕ) (p q : ℕ) → OneOf ps p → OneOf qs q → OneOf (edges_between n ps qs)
    (numbers p q n)
listed_between n [] qs p q h g = absurd h
listed_between n (r ∷ ps) qs p q h g = elim h [
  | inl e ↦ one_of-left (edges_to n r qs) (edges_between n ps qs) (numbers p q n)
      (subst (λ x. OneOf (edges_to n r qs) (numbers x q n)) e (listed_to n r qs q g))
  | inr t ↦ one_of-right (edges_to n r qs) (edges_between n ps qs) (numbers p q n) (listed_between n ps qs p q t g)
]

pub to_listed : (n p : ℕ) (qs : List ℕ) (d : Edge) → OneOf (edges_to n p qs) d → (d.node ≡ n) × (d.from ≡ p)
    × OneOf qs d.to
to_listed n p [] d h = absurd h
to_listed n p (q ∷ qs) d h = elim h [
  | inl e ↦ (ap (λ (x : Edge). x.node) (sym e), ap (λ (x : Edge). x.from) (sym e), inl (ap (λ (x : Edge). x.to) e))
  | inr t ↦ let r = to_listed n p qs d t in (r.0, r.1, inr r.2)
]

pub between_listed : (n : ℕ) (ps qs : List ℕ) (d : Edge) → OneOf (edges_between n ps qs) d → (d.node ≡ n)
    × OneOf ps d.from × OneOf qs d.to
between_listed n [] qs d h = absurd h
between_listed n (p ∷ ps) qs d h = elim (one_of-cases (edges_to n p qs) (edges_between n ps qs) d h) [
  | inl l ↦ let r = to_listed n p qs d l in (r.0, inl (sym r.1), r.2)
  | inr m ↦ let r = between_listed n ps qs d m in (r.0, inr r.1, r.2)
]

-- in the first, the second and the third of three lists
module _ {A : Type 0} (xs ys zs : List A) (x : A) where
  one_of-first : OneOf xs x → OneOf (xs ++ (ys ++ zs)) x
  one_of-first h = one_of-left xs (ys ++ zs) x h

  one_of-second : OneOf ys x → OneOf (xs ++ (ys ++ zs)) x
  one_of-second h = one_of-right xs (ys ++ zs) x (one_of-left ys zs x h)

  one_of-third : OneOf zs x → OneOf (xs ++ (ys ++ zs)) x
  one_of-third h = one_of-right xs (ys ++ zs) x (one_of-right ys zs x h)

pub listed_follow : {e : Tree} {p q n : ℕ} {rs ls fs : List Round} → Follow e p q n rs ls fs
    → OneOf (follow_edges e) (numbers p q n)
listed_follow {p = p} {q = q} (follow_seq {at = at} {e = e} {f = f} l g) =
    one_of-third (follow_edges e) (follow_edges f) (edges_between at.number (last_places e) (first_places f))
    (numbers p q at.number)
    (listed_between at.number (last_places e) (first_places f) p q (listed_last l) (listed_first g))
listed_follow {p = p} {q = q} (follow_star {at = at} {e = e} l g) =
    one_of-right (follow_edges e) (edges_between at.number (last_places e) (first_places e)) (numbers p q at.number)
    (listed_between at.number (last_places e) (first_places e) p q (listed_last l) (listed_first g))
listed_follow {p = p} {q = q} (follow_scope {at = at} {e = e} {x = x} {h = h} l g) =
    one_of-right (follow_edges e)
    (follow_edges x ++ (follow_edges h ++ edges_between at.number (last_places x) (first_places h)))
    (numbers p q at.number)
    (one_of-third (follow_edges x) (follow_edges h) (edges_between at.number (last_places x) (first_places h))
    (numbers p q at.number)
    (listed_between at.number (last_places x) (first_places h) p q (listed_last l) (listed_first g)))
listed_follow {p = p} {q = q} {n = n} (within_left {at = at} {e = e} {f = f} d) =
    one_of-first (follow_edges e) (follow_edges f) (edges_between at.number (last_places e) (first_places f))
    (numbers p q n) (listed_follow d)
listed_follow {p = p} {q = q} {n = n} (within_right {at = at} {e = e} {f = f} d) =
    one_of-second (follow_edges e) (follow_edges f) (edges_between at.number (last_places e) (first_places f))
    (numbers p q n) (listed_follow d)
listed_follow {p = p} {q = q} {n = n} (within_either {e = e} {f = f} d) =
    one_of-left (follow_edges e) (follow_edges f) (numbers p q n) (listed_follow d)
listed_follow {p = p} {q = q} {n = n} (within_or {e = e} {f = f} d) =
    one_of-right (follow_edges e) (follow_edges f) (numbers p q n) (listed_follow d)
listed_follow {p = p} {q = q} {n = n} (within_star {at = at} {e = e} d) =
    one_of-left (follow_edges e) (edges_between at.number (last_places e) (first_places e)) (numbers p q n)
    (listed_follow d)
listed_follow (within_hold d) = listed_follow d
listed_follow {p = p} {q = q} {n = n} (within_body {at = at} {e = e} {x = x} {h = h} d) =
    one_of-left (follow_edges e)
    (follow_edges x ++ (follow_edges h ++ edges_between at.number (last_places x) (first_places h)))
    (numbers p q n) (listed_follow d)
listed_follow {p = p} {q = q} {n = n} (within_trap {at = at} {e = e} {x = x} {h = h} d) =
    one_of-right (follow_edges e)
    (follow_edges x ++ (follow_edges h ++ edges_between at.number (last_places x) (first_places h)))
    (numbers p q n)
    (one_of-first (follow_edges x) (follow_edges h) (edges_between at.number (last_places x) (first_places h))
    (numbers p q n) (listed_follow d))
listed_follow {p = p} {q = q} {n = n} (within_after {at = at} {e = e} {x = x} {h = h} d) =
    one_of-right (follow_edges e)
    (follow_edges x ++ (follow_edges h ++ edges_between at.number (last_places x) (first_places h)))
    (numbers p q n)
    (one_of-second (follow_edges x) (follow_edges h) (edges_between at.number (last_places x) (first_places h))
    (numbers p q n) (listed_follow d))

-- the lists of scopes of a follow edge that is listed
abbrev pub FollowListed : Tree → Edge → Type 0
FollowListed e d = (rs : List Round) × (ls : List Round) × (fs : List Round) × Follow e d.from d.to d.node rs ls fs

pub follow_listed : (e : Tree) (d : Edge) → OneOf (follow_edges e) d → FollowListed e d
follow_listed (Empty at) d h = absurd h
follow_listed (Terminal at p t) d h = absurd h
follow_listed (Action at a) d h = absurd h
follow_listed (Seq at e f) d h =
    let own : List Edge = edges_between at.number (last_places e) (first_places f) in
    elim (one_of-cases (follow_edges e) (follow_edges f ++ own) d h) [
      | inl l ↦ let r = follow_listed e d l in (r.0, r.1, r.2, within_left r.3)
      | inr rest ↦ elim (one_of-cases (follow_edges f) own d rest) [
        | inl m ↦ let r = follow_listed f d m in (r.0, r.1, r.2, within_right r.3)
        | inr here ↦
            let c = between_listed at.number (last_places e) (first_places f) d here in
            let l = last_listed e d.from c.1 in
            let g = first_listed f d.to c.2 in
            ([], l.0, g.0, subst (λ m. Follow (Seq at e f) d.from d.to m [] l.0 g.0) (sym c.0) (follow_seq l.1 g.1))
      ]
    ]
follow_listed (Choice at e f) d h = elim (one_of-cases (follow_edges e) (follow_edges f) d h) [
  | inl l ↦ let r = follow_listed e d l in (r.0, r.1, r.2, within_either r.3)
  | inr m ↦ let r = follow_listed f d m in (r.0, r.1, r.2, within_or r.3)
]
follow_listed (Star at e) d h =
    let own : List Edge = edges_between at.number (last_places e) (first_places e) in
    elim (one_of-cases (follow_edges e) own d h) [
      | inl rest ↦ let r = follow_listed e d rest in (r.0, r.1, r.2, within_star r.3)
      | inr here ↦
          let c = between_listed at.number (last_places e) (first_places e) d here in
          let l = last_listed e d.from c.1 in
          let g = first_listed e d.to c.2 in
          ([], l.0, g.0, subst (λ m. Follow (Star at e) d.from d.to m [] l.0 g.0) (sym c.0) (follow_star l.1 g.1))
    ]
follow_listed (Hold at t e) d h = let r = follow_listed e d h in (r.0, r.1, r.2, within_hold r.3)
follow_listed (Scope at s e x h) d g =
    let own : List Edge = edges_between at.number (last_places x) (first_places h) in
    elim (one_of-cases (follow_edges e) (follow_edges x ++ (follow_edges h ++ own)) d g) [
      | inl l ↦ let r = follow_listed e d l in (Body s ∷ r.0, r.1, r.2, within_body r.3)
      | inr more ↦ elim (one_of-cases (follow_edges x) (follow_edges h ++ own) d more) [
        | inl l ↦ let r = follow_listed x d l in (Trap s ∷ r.0, r.1, r.2, within_trap r.3)
        | inr rest ↦ elim (one_of-cases (follow_edges h) own d rest) [
          | inl m ↦ let r = follow_listed h d m in (r.0, r.1, r.2, within_after r.3)
          | inr here ↦
              let c = between_listed at.number (last_places x) (first_places h) d here in
              let l = last_listed x d.from c.1 in
              let k = first_listed h d.to c.2 in (
                [],
                Trap s ∷ l.0,
                k.0,
                subst (λ m. Follow (Scope at s e x h) d.from d.to m [] (Trap s ∷ l.0) k.0)
                    (sym c.0) (follow_scope l.1 k.1),
              )
        ]
      ]
    ]
