-- In a numbered tree the lists of first and last places rise strictly, and no follow edge is listed twice.
use Rattle.std.proofs.Common.{◌≡◌, ℕ, suc, ◌+◌, ◌≤◌, Bool, true, cond, inl, inr, List, [], ◌∷◌, ◌++◌, arith, sym, subst}
use Rattle.std.specs.Prelude.{nat_eq}
use Rattle.std.proofs.lemmas.Bool.{cases_Bool, cond-true, cond-false, eqb-true, and_parts}
use Rattle.pbs_ast.specs.Trees.{Tree, Empty, Terminal, Action, Seq, Choice, Star, Hold, Scope}
use Rattle.pbs_ast.specs.Sound.{visit_count, place_count, scope_count}
use Rattle.pbs_edges.proofs.Numbering.{numbered}
use Rattle.pbs_ast.specs.Trees.{nullable}
use Rattle.pbs_edges.specs.Listed.{first_places, last_places}
use Rattle.pbs_edges.proofs.Rounds.{pair_parts, scope_parts}

-- the numbers rise strictly, from b on, and stay below c
abbrev pub RisesWithin : ℕ → ℕ → List ℕ → Type 0
RisesWithin b c [] = b ≤ c
RisesWithin b c (x ∷ xs) = (b ≤ x) × RisesWithin (suc x) c xs

rises-bounds : (b c : ℕ) (xs : List ℕ) → RisesWithin b c xs → b ≤ c
rises-bounds b c [] h = h
rises-bounds b c (x ∷ xs) h = let l = h.0 in let m = rises-bounds (suc x) c xs h.1 in omega arith

rises-lower : (a b c : ℕ) (xs : List ℕ) → a ≤ b → RisesWithin b c xs → RisesWithin a c xs
rises-lower a b c [] l h = omega arith
rises-lower a b c (x ∷ xs) l h = (let m = h.0 in omega arith, h.1)

-- a list and a later one
rises-append : (b c d : ℕ) (xs ys : List ℕ) → RisesWithin b c xs → RisesWithin c d ys → RisesWithin b d (xs ++ ys)
rises-append b c d [] ys h g = rises-lower b c d ys h g
rises-append b c d (x ∷ xs) ys h g = (h.0, rises-append (suc x) c d xs ys h.1 g)

rises-if : (t : Bool) (b c : ℕ) (xs : List ℕ) → RisesWithin b c xs → RisesWithin b c (cond t xs [])
rises-if t b c xs h = elim (cases_Bool t) [
  | inl e ↦ subst (λ ys. RisesWithin b c ys) (sym (cond-true t xs [] e)) h
  | inr e ↦ subst (λ ys. RisesWithin b c ys) (sym (cond-false t xs [] e)) (rises-bounds b c xs h)
]

rises-none : (b c d : ℕ) → c ≤ d → (xs : List ℕ) → RisesWithin b c xs → RisesWithin b d xs
rises-none b c d l [] h = omega arith
rises-none b c d l (x ∷ xs) h = (h.0, rises-none (suc x) c d l xs h.1)

pub first_places-rise : (e : Tree) (n b s : ℕ) → numbered e n b s ≡ true → RisesWithin b (b + place_count e)
    (first_places e)
first_places-rise (Empty at) n b s g = omega arith
first_places-rise (Terminal at q t) n b s g =
    let own : q ≡ b = eqb-true q b (and_parts (nat_eq at.number n) (nat_eq q b) g).1 in (omega arith, omega arith)
first_places-rise (Action at a) n b s g = omega arith
first_places-rise (Seq at e f) n b s g =
    let c = pair_parts at e f n b s g in
    let r = rises-append b (b + place_count e) (b + place_count e + place_count f) (first_places e)
    (cond (nullable e) (first_places f) [])
    (first_places-rise e (n + 1) b s c.left)
    (rises-if (nullable e) (b + place_count e) (b + place_count e + place_count f) (first_places f)
    (first_places-rise f (n + 1 + visit_count e) (b + place_count e) (s + scope_count e) c.right)) in
    rises-none b (b + place_count e + place_count f) (b + (place_count e + place_count f)) (omega arith)
    (first_places e ++ cond (nullable e) (first_places f) []) r
first_places-rise (Choice at e f) n b s g =
    let c = pair_parts at e f n b s g in
    let r = rises-append b (b + place_count e) (b + place_count e + place_count f) (first_places e) (first_places f)
    (first_places-rise e (n + 1) b s c.left)
    (first_places-rise f (n + 1 + visit_count e) (b + place_count e) (s + scope_count e) c.right) in
    rises-none b (b + place_count e + place_count f) (b + (place_count e + place_count f)) (omega arith)
    (first_places e ++ first_places f) r
first_places-rise (Star at e) n b s g = first_places-rise e (n + 1) b s
    (and_parts (nat_eq at.number n) (numbered e (n + 1) b s) g).1
first_places-rise (Hold at t e) n b s g = first_places-rise e (n + 1) b s
    (and_parts (nat_eq at.number n) (numbered e (n + 1) b s) g).1
first_places-rise (Scope at t e x h) n b s g =
    let c = scope_parts at t e x h n b s g in
    let r = rises-append b (b + place_count e) (b + place_count e + place_count x) (first_places e) (first_places x)
    (first_places-rise e (n + 1) b (1 + s) c.body)
    (first_places-rise x (n + 1 + visit_count e) (b + place_count e) (1 + s + scope_count e) c.trap) in
    rises-none b (b + place_count e + place_count x) (b + (place_count e + place_count x + place_count h)) (omega arith)
    (first_places e ++ first_places x) r

pub last_places-rise : (e : Tree) (n b s : ℕ) → numbered e n b s ≡ true → RisesWithin b (b + place_count e)
    (last_places e)
last_places-rise (Empty at) n b s g = omega arith
last_places-rise (Terminal at q t) n b s g =
    let own : q ≡ b = eqb-true q b (and_parts (nat_eq at.number n) (nat_eq q b) g).1 in (omega arith, omega arith)
last_places-rise (Action at a) n b s g = omega arith
last_places-rise (Seq at e f) n b s g =
    let c = pair_parts at e f n b s g in
    let r = rises-append b (b + place_count e) (b + place_count e + place_count f)
    (cond (nullable f) (last_places e) []) (last_places f)
    (rises-if (nullable f) b (b + place_count e) (last_places e) (last_places-rise e (n + 1) b s c.left))
    (last_places-rise f (n + 1 + visit_count e) (b + place_count e) (s + scope_count e) c.right) in
    rises-none b (b + place_count e + place_count f) (b + (place_count e + place_count f)) (omega arith)
    (cond (nullable f) (last_places e) [] ++ last_places f) r
last_places-rise (Choice at e f) n b s g =
    let c = pair_parts at e f n b s g in
    let r = rises-append b (b + place_count e) (b + place_count e + place_count f) (last_places e) (last_places f)
    (last_places-rise e (n + 1) b s c.left)
    (last_places-rise f (n + 1 + visit_count e) (b + place_count e) (s + scope_count e) c.right) in
    rises-none b (b + place_count e + place_count f) (b + (place_count e + place_count f)) (omega arith)
    (last_places e ++ last_places f) r
last_places-rise (Star at e) n b s g = last_places-rise e (n + 1) b s
    (and_parts (nat_eq at.number n) (numbered e (n + 1) b s) g).1
last_places-rise (Hold at t e) n b s g = last_places-rise e (n + 1) b s
    (and_parts (nat_eq at.number n) (numbered e (n + 1) b s) g).1
last_places-rise (Scope at t e x h) n b s g =
    let c = scope_parts at t e x h n b s g in
    let tail = rises-append (b + place_count e) (b + place_count e + place_count x)
    (b + place_count e + place_count x + place_count h) (cond (nullable h) (last_places x) []) (last_places h)
    (rises-if (nullable h) (b + place_count e) (b + place_count e + place_count x) (last_places x)
    (last_places-rise x (n + 1 + visit_count e) (b + place_count e) (1 + s + scope_count e) c.trap))
    (last_places-rise h (n + 1 + visit_count e + visit_count x) (b + place_count e + place_count x)
    (1 + s + scope_count e + scope_count x) c.after) in
    let r = rises-append b (b + place_count e) (b + place_count e + place_count x + place_count h) (last_places e)
    (cond (nullable h) (last_places x) [] ++ last_places h)
    (last_places-rise e (n + 1) b (1 + s) c.body) tail in
    rises-none b (b + place_count e + place_count x + place_count h)
    (b + (place_count e + place_count x + place_count h)) (omega arith)
    (last_places e ++ (cond (nullable h) (last_places x) [] ++ last_places h)) r
