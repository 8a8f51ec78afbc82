-- What the rules on scopes and places give the laws: the same facts as types, part by part.
use Rattle.std.proofs.Common.{◌≡◌, ℕ, ◌+◌, ◌<◌, ◌≤◌, true, ◌||◌, IsTrue, arith}
use Rattle.std.proofs.lemmas.Bool.{and_parts, false≢true, eqb-true}
use Rattle.pbs_ast.specs.Trees.{Tree, Empty, Terminal, Action, Seq, Choice, Star, Hold, Scope, has_place, has_terminal}
use Rattle.pbs_ast.specs.Trees.{is_plain}
use Rattle.pbs_ast.specs.Sound.{place_count, places_from, scopes_right}
use Rattle.pbs_derive.proofs.Positions.{or_elim}

-- each scope's body has a terminal, and its trap is plain
abbrev pub WellFormed : Tree → Type 0
WellFormed (Empty spot) = Unit {0}
WellFormed (Terminal spot p t) = Unit {0}
WellFormed (Action spot a) = Unit {0}
WellFormed (Seq spot e f) = WellFormed e × WellFormed f
WellFormed (Choice spot e f) = WellFormed e × WellFormed f
WellFormed (Star spot e) = WellFormed e
WellFormed (Hold spot t e) = WellFormed e
WellFormed (Scope spot s e x h) = WellFormed e × WellFormed x × WellFormed h × (has_terminal e ≡ true)
    × (is_plain x ≡ true)

-- no place stands in both trees
abbrev pub Apart : Tree → Tree → Type 0
Apart e f = (p : ℕ) → has_place p e ≡ true → has_place p f ≡ true → ⊥

-- each place stands in the tree once
abbrev pub PlacesOnce : Tree → Type 0
PlacesOnce (Empty spot) = Unit {0}
PlacesOnce (Terminal spot p t) = Unit {0}
PlacesOnce (Action spot a) = Unit {0}
PlacesOnce (Seq spot e f) = PlacesOnce e × PlacesOnce f × Apart e f
PlacesOnce (Choice spot e f) = PlacesOnce e × PlacesOnce f × Apart e f
PlacesOnce (Star spot e) = PlacesOnce e
PlacesOnce (Hold spot t e) = PlacesOnce e
PlacesOnce (Scope spot s e x h) = PlacesOnce e × PlacesOnce x × PlacesOnce h × Apart e x × Apart e h × Apart x h

plain_well : (e : Tree) → is_plain e ≡ true → WellFormed e
plain_well (Empty spot) h = tt
plain_well (Terminal spot p t) h = tt
plain_well (Action spot a) h = tt
plain_well (Seq spot e f) h = let p = and_parts _ _ h in (plain_well e p.0, plain_well f p.1)
plain_well (Choice spot e f) h = let p = and_parts _ _ h in (plain_well e p.0, plain_well f p.1)
plain_well (Star spot e) h = plain_well e h
plain_well (Hold spot t e) h = plain_well e h
plain_well (Scope spot s e x a) h = absurd (false≢true h)

pub well_formed : (e : Tree) → IsTrue (scopes_right e) → WellFormed e
well_formed (Empty spot) h = tt
well_formed (Terminal spot p t) h = tt
well_formed (Action spot a) h = tt
well_formed (Seq spot e f) h = let p = and_parts _ _ h in
    (well_formed e p.0, well_formed f p.1)
well_formed (Choice spot e f) h = let p = and_parts _ _ h in
    (well_formed e p.0, well_formed f p.1)
well_formed (Star spot e) h = well_formed e h
well_formed (Hold spot t e) h = well_formed e h
well_formed (Scope spot s e x a) h =
    let body = and_parts _ _ h in
    let moves = and_parts _ _ body.1 in
    let plain = and_parts _ _ moves.1 in
    let rest = and_parts _ _ plain.1 in
    (well_formed e rest.0, plain_well x plain.0, well_formed a rest.1, body.0, plain.0)

-- the places that are numbered from `low` on
abbrev pub Range : ℕ → ℕ → ℕ → Type 0
Range low n p = (low ≤ p) × (p < low + n)

pub place_range : (e : Tree) (low p : ℕ) → IsTrue (places_from e low) → has_place p e ≡ true
    → Range low (place_count e) p
place_range (Empty spot) low p n h = absurd (false≢true h)
place_range (Terminal spot q t) low p n h =
    let same : p ≡ q = eqb-true p q h in
    let first : q ≡ low = eqb-true q low n in (omega arith, omega arith)
place_range (Action spot a) low p n h = absurd (false≢true h)
place_range (Seq spot e f) low p n h =
    let c = and_parts _ _ n in
    or_elim (has_place p e) (has_place p f) h
    (λ l. let r : Range low (place_count e) p = place_range e low p c.0 l in (r.0, omega arith))
    (λ l. let r : Range (low + place_count e) (place_count f) p = place_range f (low + place_count e) p c.1 l in
    (omega arith, omega arith))
place_range (Choice spot e f) low p n h =
    let c = and_parts _ _ n in
    or_elim (has_place p e) (has_place p f) h
    (λ l. let r : Range low (place_count e) p = place_range e low p c.0 l in (r.0, omega arith))
    (λ l. let r : Range (low + place_count e) (place_count f) p = place_range f (low + place_count e) p c.1 l in
    (omega arith, omega arith))
place_range (Star spot e) low p n h = place_range e low p n h
place_range (Hold spot t e) low p n h = place_range e low p n h
place_range (Scope spot s e x a) low p n h =
    let c = and_parts _ _ n in
    let d = and_parts _ _ c.1 in
    or_elim (has_place p e || has_place p x) (has_place p a) h
    (λ o. or_elim (has_place p e) (has_place p x) o
    (λ l. let r : Range low (place_count e) p = place_range e low p c.0 l in (r.0, omega arith))
    (λ l. let r : Range (low + place_count e) (place_count x) p = place_range x (low + place_count e) p d.0 l in
    (omega arith, omega arith)))
    (λ l. let r : Range (low + place_count e + place_count x) (place_count a) p = place_range a
    (low + place_count e + place_count x) p d.1 l in (omega arith, omega arith))

pub places_once : (e : Tree) (low : ℕ) → IsTrue (places_from e low) → PlacesOnce e
places_once (Empty spot) low n = tt
places_once (Terminal spot q t) low n = tt
places_once (Action spot a) low n = tt
places_once (Seq spot e f) low n =
    let c = and_parts _ _ n in (
      places_once e low c.0,
      places_once f (low + place_count e) c.1,
      λ p a b.
          let r : Range low (place_count e) p = place_range e low p c.0 a in
          let s : Range (low + place_count e) (place_count f) p = place_range f (low + place_count e) p c.1 b in
          omega arith,
    )
places_once (Choice spot e f) low n =
    let c = and_parts _ _ n in (
      places_once e low c.0,
      places_once f (low + place_count e) c.1,
      λ p a b.
          let r : Range low (place_count e) p = place_range e low p c.0 a in
          let s : Range (low + place_count e) (place_count f) p = place_range f (low + place_count e) p c.1 b in
          omega arith,
    )
places_once (Star spot e) low n = places_once e low n
places_once (Hold spot t e) low n = places_once e low n
places_once (Scope spot s e x h) low n =
    let low_x = low + place_count e in
    let low_h = low + place_count e + place_count x in
    let c = and_parts _ _ n in
    let d = and_parts _ _ c.1 in
    let in_e : (p : ℕ) → has_place p e ≡ true → Range low (place_count e) p = λ p. place_range e low p c.0 in
    let in_x : (p : ℕ) → has_place p x ≡ true → Range low_x (place_count x) p = λ p. place_range x low_x p d.0 in
    let in_h : (p : ℕ) → has_place p h ≡ true → Range low_h (place_count h) p = λ p. place_range h low_h p d.1 in (
      places_once e low c.0,
      places_once x low_x d.0,
      places_once h low_h d.1,
      λ p a b. let r = in_e p a in let s = in_x p b in omega (arith, r.1, s.0),
      λ p a b. let r = in_e p a in let s = in_h p b in omega (arith, r.1, s.0),
      λ p a b. let r = in_x p a in let s = in_h p b in omega (arith, r.1, s.0),
    )
