-- In a numbered tree the numbers of an edge tell what it aborts, enters, lies inside and leaves.
use Rattle.std.proofs.Common.{◌≡◌, ℕ, suc, ◌+◌, ◌≤◌, true, ◌⊎◌, inl, inr, ◌↔◌, List, [], ◌∷◌, ◌++◌, arith, sym, ap}
use Rattle.std.proofs.Common.{subst}
use Rattle.std.specs.Prelude.{nat_eq}
use Rattle.std.proofs.lemmas.Bool.{and_parts}
use Rattle.pbs_ast.specs.Trees.{Tree}
use Rattle.pbs_ast.specs.Sound.{visit_count, place_count, scope_count}
use Rattle.pbs_edges.proofs.Numbering.{numbered}
use Rattle.pbs_edges.proofs.Numbering.{IsNumbered}
use Rattle.pbs_edges.specs.Edges.{Round, Body, Trap, Among, ScopedEdge, IsFollow, Aborts, Enters, LiesInBody, Leaves}
use Rattle.pbs_edges.specs.inner.Rounds.{place_rounds, node_rounds}
use Rattle.pbs_edges.specs.inner.ByNumber.{PlaceInBody, PlaceInTrap, NodeInBody, AbortsByNumber, EntersByNumber}
use Rattle.pbs_edges.specs.inner.ByNumber.{LeavesByNumber}
use Rattle.pbs_edges.proofs.Rounds.{Place, place_here, place_left, place_right, place_either, place_or, place_star}
use Rattle.pbs_edges.proofs.Rounds.{place_hold, place_body, place_trap, place_after, pair_parts, scope_parts}
use Rattle.pbs_edges.proofs.Rounds.{place_left_by, place_reached_by, edge_rounds}

abbrev scope_of : Round → ℕ
scope_of (Body s) = s
scope_of (Trap s) = s

-- scope s is one of those round
abbrev In : List Round → ℕ → Type 0
In [] s = ⊥
In (r ∷ rs) s = (scope_of r ≡ s) ⊎ In rs s

-- the scopes' numbers rise, from b on
abbrev Rising : ℕ → List Round → Type 0
Rising b [] = Unit {0}
Rising b (r ∷ rs) = (b ≤ scope_of r) × Rising (suc (scope_of r)) rs

rising-less : (a b : ℕ) (rs : List Round) → a ≤ b → Rising b rs → Rising a rs
rising-less a b [] l h = tt
rising-less a b (r ∷ rs) l h = (let m = h.0 in omega arith, h.1)

rising-low : (b s : ℕ) (rs : List Round) → Rising b rs → In rs s → b ≤ s
rising-low b s [] h g = absurd g
rising-low b s (r ∷ rs) h g = elim g [
  | inl e ↦ let l = h.0 in omega arith
  | inr t ↦ let l = h.0 in let m = rising-low (suc (scope_of r)) s rs h.1 t in omega arith
]

in-right : (rs ls : List Round) (s : ℕ) → In ls s → In (rs ++ ls) s
in-right [] ls s h = h
in-right (r ∷ rs) ls s h = inr (in-right rs ls s h)

-- a scope isn't among both parts of a rising list
rising-apart : (b s : ℕ) (rs ls : List Round) → Rising b (rs ++ ls) → In rs s → In ls s → ⊥
rising-apart b s [] ls h g k = g
rising-apart b s (r ∷ rs) ls h g k = elim g [
  | inl e ↦ let l = rising-low (suc (scope_of r)) s (rs ++ ls) h.1 (in-right rs ls s k) in omega arith
  | inr t ↦ rising-apart (suc (scope_of r)) s rs ls h.1 t k
]

rising_at_place : {e : Tree} {p : ℕ} {rs : List Round} → Place e p rs → (n b s : ℕ) → numbered e n b s ≡ true
    → Rising s rs
rising_at_place place_here n b s g = tt
rising_at_place (place_left {at = at} {rs = rs} {e = e} {f = f} h) n b s g = let c = pair_parts at e f n b s g in
    rising_at_place h (n + 1) b s c.left
rising_at_place (place_right {at = at} {rs = rs} {e = e} {f = f} h) n b s g =
    let c = pair_parts at e f n b s g in
    rising-less s (s + scope_count e) rs (omega arith)
    (rising_at_place h (n + 1 + visit_count e) (b + place_count e) (s + scope_count e) c.right)
rising_at_place (place_either {at = at} {rs = rs} {e = e} {f = f} h) n b s g = let c = pair_parts at e f n b s g in
    rising_at_place h (n + 1) b s c.left
rising_at_place (place_or {at = at} {rs = rs} {e = e} {f = f} h) n b s g =
    let c = pair_parts at e f n b s g in
    rising-less s (s + scope_count e) rs (omega arith)
    (rising_at_place h (n + 1 + visit_count e) (b + place_count e) (s + scope_count e) c.right)
rising_at_place (place_star {at = at} {e = e} h) n b s g = rising_at_place h (n + 1) b s
    (and_parts (nat_eq at.number n) (numbered e (n + 1) b s) g).1
rising_at_place (place_hold {at = at} {e = e} h) n b s g = rising_at_place h (n + 1) b s
    (and_parts (nat_eq at.number n) (numbered e (n + 1) b s) g).1
rising_at_place (place_body {at = at} {s = t} {rs = rs} {e = e} {x = x} {h = h} d) n b s g =
    let c = scope_parts at t e x h n b s g in
    let own : t ≡ s = c.scope in
    (omega arith, rising-less (suc t) (1 + s) rs (omega arith) (rising_at_place d (n + 1) b (1 + s) c.body))
rising_at_place (place_trap {at = at} {s = t} {rs = rs} {e = e} {x = x} {h = h} d) n b s g =
    let c = scope_parts at t e x h n b s g in
    let own : t ≡ s = c.scope in (
      omega arith,
      rising-less (suc t) (1 + s + scope_count e) rs (omega arith)
          (rising_at_place d (n + 1 + visit_count e) (b + place_count e) (1 + s + scope_count e) c.trap),
    )
rising_at_place (place_after {at = at} {s = t} {rs = rs} {e = e} {x = x} {h = h} d) n b s g =
    let c = scope_parts at t e x h n b s g in
    rising-less s (1 + s + scope_count e + scope_count x) rs (omega arith)
    (rising_at_place d (n + 1 + visit_count e + visit_count x) (b + place_count e + place_count x)
    (1 + s + scope_count e + scope_count x) c.after)

in-body : (rs : List Round) (s : ℕ) → Among rs (Body s) → In rs s
in-body [] s h = h
in-body (r ∷ rs) s h = elim h [ inl e ↦ inl (ap scope_of e) | inr t ↦ inr (in-body rs s t) ]

in-trap : (rs : List Round) (s : ℕ) → Among rs (Trap s) → In rs s
in-trap [] s h = h
in-trap (r ∷ rs) s h = elim h [ inl e ↦ inl (ap scope_of e) | inr t ↦ inr (in-trap rs s t) ]

among-left : (rs ls : List Round) (r : Round) → Among rs r → Among (rs ++ ls) r
among-left [] ls r h = absurd h
among-left (q ∷ rs) ls r h = elim h [ inl e ↦ inl e | inr t ↦ inr (among-left rs ls r t) ]

among-right : (rs ls : List Round) (r : Round) → Among ls r → Among (rs ++ ls) r
among-right [] ls r h = h
among-right (q ∷ rs) ls r h = inr (among-right rs ls r h)

among-cases : (rs ls : List Round) (r : Round) → Among (rs ++ ls) r → Among rs r ⊎ Among ls r
among-cases [] ls r h = inr h
among-cases (q ∷ rs) ls r h = elim h [
  | inl e ↦ inl (inl e)
  | inr t ↦ elim (among-cases rs ls r t) [ inl a ↦ inl (inr a) | inr b ↦ inr b ]
]

module _ (main : Tree) (number : IsNumbered main) (d : ScopedEdge) (follow : IsFollow main d) (s : ℕ) where
  from_rounds : place_rounds main 0 d.from ≡ d.above ++ d.left
  from_rounds = (edge_rounds number follow).left

  to_rounds : place_rounds main 0 d.to ≡ d.above ++ d.entered
  to_rounds = (edge_rounds number follow).entered

  own_rounds : node_rounds main 0 d.node ≡ d.above
  own_rounds = (edge_rounds number follow).above

  left_apart : In d.above s → In d.left s → ⊥
  left_apart = rising-apart 0 s d.above d.left (rising_at_place (place_left_by follow) 0 0 0 number)

  entered_apart : In d.above s → In d.entered s → ⊥
  entered_apart = rising-apart 0 s d.above d.entered (rising_at_place (place_reached_by follow) 0 0 0 number)

  pub aborts_by_number : Aborts d s ↔ AbortsByNumber main d.from d.node s
  aborts_by_number = (
    (λ h. (
      subst (λ rs. Among rs (Trap s)) (sym from_rounds) (among-right d.above d.left (Trap s) h),
      λ n. left_apart (in-trap d.above s (subst (λ rs. Among rs (Trap s)) own_rounds n)) (in-trap d.left s h),
    )),
    (λ g. elim (among-cases d.above d.left (Trap s) (subst (λ rs. Among rs (Trap s)) from_rounds g.0)) [
      | inl a ↦ absurd (g.1 (subst (λ rs. Among rs (Trap s)) (sym own_rounds) a))
      | inr b ↦ b
    ]),
  )

  pub lies_by_number : LiesInBody d s ↔ NodeInBody main d.node s
  lies_by_number = (subst (λ rs. Among rs (Body s)) (sym own_rounds), subst (λ rs. Among rs (Body s)) own_rounds)

  pub enters_by_number : Enters d s ↔ EntersByNumber main d.to d.node s
  enters_by_number = (
    (λ h.
        let round : In d.entered s = elim h [ inl b ↦ in-body d.entered s b | inr t ↦ in-trap d.entered s t ] in
        let there : PlaceInBody main d.to s ⊎ PlaceInTrap main d.to s = elim h [
          | inl b ↦ inl (subst (λ rs. Among rs (Body s)) (sym to_rounds) (among-right d.above d.entered (Body s) b))
          | inr t ↦ inr (subst (λ rs. Among rs (Trap s)) (sym to_rounds) (among-right d.above d.entered (Trap s) t))
        ] in (
          there,
          (λ n. entered_apart (in-body d.above s (subst (λ rs. Among rs (Body s)) own_rounds n)) round),
          (λ n. entered_apart (in-trap d.above s (subst (λ rs. Among rs (Trap s)) own_rounds n)) round),
        )),
    (λ g. elim g.0 [
      | inl b ↦ elim (among-cases d.above d.entered (Body s) (subst (λ rs. Among rs (Body s)) to_rounds b)) [
        | inl a ↦ absurd (g.1 (subst (λ rs. Among rs (Body s)) (sym own_rounds) a))
        | inr c ↦ inl c
      ]
      | inr t ↦ elim (among-cases d.above d.entered (Trap s) (subst (λ rs. Among rs (Trap s)) to_rounds t)) [
        | inl a ↦ absurd (g.2 (subst (λ rs. Among rs (Trap s)) (sym own_rounds) a))
        | inr c ↦ inr c
      ]
    ]),
  )

  leaves_to : Leaves d s → LeavesByNumber main d.from s
  leaves_to h = elim h [
    | inl a ↦ elim a [
      | inl b ↦ inl (subst (λ rs. Among rs (Body s)) (sym from_rounds) (among-left d.above d.left (Body s) b))
      | inr t ↦ inr (subst (λ rs. Among rs (Trap s)) (sym from_rounds) (among-left d.above d.left (Trap s) t))
    ]
    | inr a ↦ elim a [
      | inl b ↦ inl (subst (λ rs. Among rs (Body s)) (sym from_rounds) (among-right d.above d.left (Body s) b))
      | inr t ↦ inr (subst (λ rs. Among rs (Trap s)) (sym from_rounds) (among-right d.above d.left (Trap s) t))
    ]
  ]

  leaves_from : LeavesByNumber main d.from s → Leaves d s
  leaves_from h = elim h [
    | inl b ↦ elim (among-cases d.above d.left (Body s) (subst (λ rs. Among rs (Body s)) from_rounds b)) [
      | inl a ↦ inl
          (inl a)
      | inr c ↦ inr (inl c)
    ]
    | inr t ↦ elim (among-cases d.above d.left (Trap s) (subst (λ rs. Among rs (Trap s)) from_rounds t)) [
      | inl a ↦ inl
          (inr a)
      | inr c ↦ inr (inr c)
    ]
  ]

  pub leaves_by_number : Leaves d s ↔ LeavesByNumber main d.from s
  leaves_by_number = (leaves_to, leaves_from)
