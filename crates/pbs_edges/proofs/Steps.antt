-- The step lemma: by which edge a place that stands was reached.
use Rattle.std.proofs.Common.{◌≡◌, ℕ, suc, ◌+◌, ◌-◌, ◌<◌, ◌≤◌, Bool, true, false, ◌&&◌, ◌||◌, ◌⊎◌, inl, inr, List, []}
use Rattle.std.proofs.Common.{◌∷◌, arith, refl, subst}
use Rattle.std.specs.Prelude.{nat_eq, slice_index}
use Rattle.std.proofs.lemmas.Bool.{eqb-true, eq-eqb, and_parts, and_from, or_cases, or_left, or_right}
use Rattle.bool_terms.specs.Terms.{Term, holds}
use Rattle.pbs_ast.specs.Trees.{Tree, Spot, Empty, Terminal, Action, Seq, Choice, Star, Hold, Scope}
use Rattle.pbs_derive.specs.Derivations.{covers, alive, stands, trips, all_hold, repeats, some_within}
use Rattle.pbs_ast.specs.Trees.{nullable, fits}
use Rattle.pbs_edges.specs.Edges.{Round, Body, Trap, Among, Last, last_terminal, last_right, last_left, last_either}
use Rattle.pbs_edges.specs.Edges.{last_or, last_star, last_hold, last_body, last_after, last_trap, Follow}
use Rattle.pbs_derive.proofs.Positions.{split_to, split_from, all_hold_to, all_hold_from}
use Rattle.pbs_derive.proofs.EmptyStretch.{covers_to_nullable}
use Rattle.pbs_derive.proofs.Stretches.{lasts}
use Rattle.pbs_derive.proofs.Places.{stands_to_alive}
use Rattle.pbs_edges.proofs.Tests.{Quiet, IsFirstPass, scope-gives, scope-from_body, scope-from_after, at_or_below}
use Rattle.pbs_edges.proofs.Tests.{repeats-last}
use Rattle.pbs_edges.proofs.Instances.{Lives, lives_here, lives_left, lives_right, lives_either, lives_or, lives_star}
use Rattle.pbs_edges.proofs.Instances.{lives_hold, lives_body, lives_trap, lives_after}

-- the instance of scope t that is live in the tree at k is aborted at k + 1, or isn't
pub record Outcome (v : List ℕ) (e : Tree) (i k t : ℕ) (aborted : Bool) : Type 0 where
  pub start : ℕ
  pub body : Tree
  pub trap : Tree
  pub lives : Lives v e i k t start body trap
  pub outcome : trips body trap v start (suc k) ≡ aborted

-- of the scopes at or below the edge's node round the place that is left, those whose trap it leaves are aborted
pub record LeftWell (v : List ℕ) (e : Tree) (i k : ℕ) (left : List Round) : Type 0 where
  pub kept : (t : ℕ) → Among left (Body t) → Outcome v e i k t false
  pub aborted : (t : ℕ) → Among left (Trap t) → Outcome v e i k t true

-- the scopes round the edge's node aren't aborted
pub record StayWell (v : List ℕ) (e : Tree) (i k : ℕ) (above : List Round) : Type 0 where
  pub stays : (t : ℕ) → (Among above (Body t) ⊎ Among above (Trap t)) → Outcome v e i k t false

-- a last place that stands at k and whose term is true there
pub record Departure (v : List ℕ) (e : Tree) (i k : ℕ) : Type 0 where
  pub from : ℕ
  pub left : List Round
  pub last : Last e from left
  pub stood : stands e v i k from ≡ true
  pub opened : fits from e (slice_index v k) ≡ true
  pub left_well : LeftWell v e i k left

-- an edge to p from a place that stands at k and whose term is true there
pub record Arrival (v : List ℕ) (e : Tree) (i k p : ℕ) (above entered : List Round) : Type 0 where
  pub from : ℕ
  pub node : ℕ
  pub left : List Round
  pub edge : Follow e from p node above left entered
  pub stood : stands e v i k from ≡ true
  pub opened : fits from e (slice_index v k) ≡ true
  pub left_well : LeftWell v e i k left
  pub stay_well : StayWell v e i k above

-- what stands or is live at k in e from i does so in o from j
pub record Into (v : List ℕ) (e : Tree) (i : ℕ) (o : Tree) (j k : ℕ) : Type 0 where
  pub standing : (p : ℕ) → stands e v i k p ≡ true → stands o v j k p ≡ true
  pub living : (t a : ℕ) (b y : Tree) → Lives v e i k t a b y → Lives v o j k t a b y
  pub opening : (p : ℕ) → fits p e (slice_index v k) ≡ true → fits p o (slice_index v k) ≡ true

pub outcome_into : {v : List ℕ} {e o : Tree} {i j k t : ℕ} {r : Bool} → Into v e i o j k → Outcome v e i k t r
    → Outcome v o j k t r
outcome_into w c = record {
  start = c.start;
  body = c.body;
  trap = c.trap;
  lives = w.living _ _ _ _ c.lives;
  outcome = c.outcome;
}

pub left_into : {v : List ℕ} {e o : Tree} {i j k : ℕ} {ls : List Round} → Into v e i o j k → LeftWell v e i k ls
    → LeftWell v o j k ls
left_into w c = record { kept = λ t h. outcome_into w (c.kept t h); aborted = λ t h. outcome_into w (c.aborted t h) }

Body-injective : {s t : ℕ} → Body s ≡ Body t → s ≡ t
Body-injective e = cc

Trap-injective : {s t : ℕ} → Trap s ≡ Trap t → s ≡ t
Trap-injective e = cc

left_body : {v : List ℕ} {e : Tree} {i k s : ℕ} {ls : List Round} → Outcome v e i k s false → LeftWell v e i k ls
    → LeftWell v e i k (Body s ∷ ls)
left_body {v} {e} {i} {k} {s} {ls} o c = record {
  kept = λ t h. elim h [ inl q ↦ subst (λ r. Outcome v e i k r false) (Body-injective q) o | inr m ↦ c.kept t m ];
  aborted = λ t h. elim h [ inl q ↦ let no : ⊥ = cc in absurd no | inr m ↦ c.aborted t m ];
}

pub left_trap : {v : List ℕ} {e : Tree} {i k s : ℕ} {ls : List Round} → Outcome v e i k s true → LeftWell v e i k ls
    → LeftWell v e i k (Trap s ∷ ls)
left_trap {v} {e} {i} {k} {s} {ls} o c = record {
  kept = λ t h. elim h [ inl q ↦ let no : ⊥ = cc in absurd no | inr m ↦ c.kept t m ];
  aborted = λ t h. elim h [ inl q ↦ subst (λ r. Outcome v e i k r true) (Trap-injective q) o | inr m ↦ c.aborted t m ];
}

pub stay_body : {v : List ℕ} {e : Tree} {i k s : ℕ} {rs : List Round} → Outcome v e i k s false → StayWell v e i k rs
    → StayWell v e i k (Body s ∷ rs)
stay_body {v} {e} {i} {k} {s} {rs} o c = record {
  stays = λ t h. elim h [
    | inl b ↦ elim b [ inl q ↦ subst (λ r. Outcome v e i k r false) (Body-injective q) o | inr m ↦ c.stays t (inl m) ]
    | inr d ↦ elim d [ inl q ↦ let no : ⊥ = cc in absurd no | inr m ↦ c.stays t (inr m) ]
  ];
}

pub stay_trap : {v : List ℕ} {e : Tree} {i k s : ℕ} {rs : List Round} → Outcome v e i k s false → StayWell v e i k rs
    → StayWell v e i k (Trap s ∷ rs)
stay_trap {v} {e} {i} {k} {s} {rs} o c = record {
  stays = λ t h. elim h [
    | inl b ↦ elim b [ inl q ↦ let no : ⊥ = cc in absurd no | inr m ↦ c.stays t (inl m) ]
    | inr d ↦ elim d [ inl q ↦ subst (λ r. Outcome v e i k r false) (Trap-injective q) o | inr m ↦ c.stays t (inr m) ]
  ];
}

left_none : {v : List ℕ} {e : Tree} {i k : ℕ} → LeftWell v e i k []
left_none = record { kept = λ t h. absurd h; aborted = λ t h. absurd h }

pub departure_into : {v : List ℕ} {e o : Tree} {i j k : ℕ} → Into v e i o j k →
    ((p : ℕ) (rs : List Round) → Last e p rs → Last o p rs)
    → Departure v e i k → Departure v o j k
departure_into w l d = record {
  from = d.from;
  left = d.left;
  last = l d.from d.left d.last;
  stood = w.standing d.from d.stood;
  opened = w.opening d.from d.opened;
  left_well = left_into w d.left_well;
}

pub arrival_into : {v : List ℕ} {e o : Tree} {i j k p : ℕ} {rs fs : List Round} → Into v e i o j k
    → ((q n : ℕ) (ls : List Round) → Follow e q p n rs ls fs → Follow o q p n rs ls fs) → Arrival v e i k p rs fs
    → Arrival v o j k p rs fs
arrival_into w l d = record {
  from = d.from;
  node = d.node;
  left = d.left;
  edge = l d.from d.node d.left d.edge;
  stood = w.standing d.from d.stood;
  opened = w.opening d.from d.opened;
  left_well = left_into w d.left_well;
  stay_well = record { stays = λ t h. outcome_into w (d.stay_well.stays t h) };
}

-- an edge by the node itself
pub arrival_from_departure : {v : List ℕ} {e o : Tree} {i j k p n : ℕ} {fs : List Round} → Into v e i o j k →
    (d : Departure v e i k)
    → Follow o d.from p n [] d.left fs → Arrival v o j k p [] fs
arrival_from_departure w d f = record {
  from = d.from;
  node = _;
  left = d.left;
  edge = f;
  stood = w.standing d.from d.stood;
  opened = w.opening d.from d.opened;
  left_well = left_into w d.left_well;
  stay_well = record { stays = λ t h. elim h [ inl b ↦ absurd b | inr c ↦ absurd c ] };
}

pub hold-at : (t : Term) (v : List ℕ) (i j m : ℕ) → all_hold t v i j ≡ true → i ≤ m → m < j → holds t (slice_index v m)
    ≡ true
hold-at t v i j m h low high = all_hold_to t v i j h m low high

pub hold-less : (t : Term) (v : List ℕ) (i k : ℕ) → all_hold t v i (suc k) ≡ true → all_hold t v i k ≡ true
hold-less t v i k h = all_hold_from t v i k (λ m low high. all_hold_to t v i (suc k) h m low (omega arith))

module _ (v : List ℕ) (k : ℕ) where
  pub into_left : (at : Spot) (e f : Tree) (i : ℕ) → Into v e i (Seq at e f) i k
  into_left at e f i = record {
    standing = λ p h. or_left (stands e v i k p) (some_within i k (λ m. covers e v i m && stands f v m k p)) h;
    living = λ t a b y h. lives_left h;
    opening = λ p h. or_left (fits p e (slice_index v k)) (fits p f (slice_index v k)) h;
  }

  pub into_right : (at : Spot) (e f : Tree) (i m : ℕ) → i ≤ m → m ≤ k → covers e v i m ≡ true → Into v f m
      (Seq at e f) i k
  into_right at e f i m low high c = record {
    standing = λ p h. or_right (stands e v i k p) (some_within i k (λ m. covers e v i m && stands f v m k p))
        (split_from i k (λ m. covers e v i m) (λ m. stands f v m k p) m low high c h);
    living = λ t a b y h. lives_right low high c h;
    opening = λ p h. or_right (fits p e (slice_index v k)) (fits p f (slice_index v k)) h;
  }

  pub into_either : (at : Spot) (e f : Tree) (i : ℕ) → Into v e i (Choice at e f) i k
  into_either at e f i = record {
    standing = λ p h. or_left (stands e v i k p) (stands f v i k p) h;
    living = λ t a b y h. lives_either h;
    opening = λ p h. or_left (fits p e (slice_index v k)) (fits p f (slice_index v k)) h;
  }

  pub into_or : (at : Spot) (e f : Tree) (i : ℕ) → Into v f i (Choice at e f) i k
  into_or at e f i = record {
    standing = λ p h. or_right (stands e v i k p) (stands f v i k p) h;
    living = λ t a b y h. lives_or h;
    opening = λ p h. or_right (fits p e (slice_index v k)) (fits p f (slice_index v k)) h;
  }

  pub into_star : (at : Spot) (e : Tree) (i m : ℕ) → i ≤ m → m ≤ k → repeats (covers e v) (m - i) i m ≡ true
      → Into v e m (Star at e) i k
  into_star at e i m low high c = record {
    standing = λ p h. split_from i k (λ m. repeats (covers e v) (m - i) i m) (λ m. stands e v m k p) m low high c h;
    living = λ t a b y h. lives_star low high c h;
    opening = λ p h. h;
  }

  pub into_hold : (at : Spot) (c : Term) (e : Tree) (i : ℕ) → i ≤ k → all_hold c v i (suc k) ≡ true → Into v e i
      (Hold at c e) i k
  into_hold at c e i low h = record {
    standing = λ p s. and_from (stands e v i k p) (all_hold c v i k) s (hold-less c v i k h);
    living = λ t a b y s. lives_hold (hold-less c v i k h) s;
    opening = λ p o. and_from (fits p e (slice_index v k)) (holds c (slice_index v k)) o
        (hold-at c v i (suc k) k h low (omega arith));
  }

  module _ (at : Spot) (s : ℕ) (e x h : Tree) (i : ℕ) where
    scope_stands : ℕ → Bool
    scope_stands p = stands e v i k p || (stands x v i k p && alive e v i k)

    pub into_body : Quiet (trips e x v i) i k → Into v e i (Scope at s e x h) i k
    unfolding scope_stands
    into_body q = record {
      standing = λ p g. scope-from_body i k (trips e x v i) (scope_stands p) (λ m. stands h v m k p) q
          (or_left (stands e v i k p) (stands x v i k p && alive e v i k) g);
      living = λ t a b y g. lives_body q g;
      opening = λ p g. or_left (fits p e (slice_index v k) || fits p x (slice_index v k)) (fits p h (slice_index v k))
          (or_left (fits p e (slice_index v k)) (fits p x (slice_index v k)) g);
    }

    pub into_trap : Quiet (trips e x v i) i k → alive e v i k ≡ true → Into v x i (Scope at s e x h) i k
    unfolding scope_stands
    into_trap q c = record {
      standing = λ p g. scope-from_body i k (trips e x v i) (scope_stands p) (λ m. stands h v m k p) q
          (or_right (stands e v i k p) (stands x v i k p && alive e v i k)
          (and_from (stands x v i k p) (alive e v i k) g c));
      living = λ t a b y g. lives_trap q c g;
      opening = λ p g. or_left (fits p e (slice_index v k) || fits p x (slice_index v k)) (fits p h (slice_index v k))
          (or_right (fits p e (slice_index v k)) (fits p x (slice_index v k)) g);
    }

    pub into_after : (m : ℕ) → m ≤ k → IsFirstPass (trips e x v i) i m → Into v h m (Scope at s e x h) i k
    unfolding scope_stands
    into_after m low f = record {
      standing = λ p g. scope-from_after i k (trips e x v i) (scope_stands p) (λ m. stands h v m k p) m low f g;
      living = λ t a b y g. lives_after low f g;
      opening = λ p g. or_right (fits p e (slice_index v k) || fits p x (slice_index v k))
          (fits p h (slice_index v k)) g;
    }

-- an abort candidate one step later: the trap covers up to there, and the body is alive
pub trip-parts : (e x : Tree) (v : List ℕ) (i k : ℕ) → trips e x v i (suc k) ≡ true → (covers x v i (suc k) ≡ true) ×
    (alive e v i k ≡ true)
trip-parts e x v i k h =
    let p = and_parts (covers x v i (suc k)) (alive e v i (suc k - 1)) h in
    let same : suc k - 1 ≡ k = omega arith in
    (p.0, subst (λ m. alive e v i m ≡ true) same p.1)

pub quiet-less : {test : ℕ → Bool} {i k : ℕ} → Quiet test i (suc k) → Quiet test i k
quiet-less q m low high = q m low (omega arith)

pub quiet_from_first : {test : ℕ → Bool} {i k : ℕ} → IsFirstPass test i (suc k) → Quiet test i k
quiet_from_first f m low high = f.before m low (omega arith)

module _ (v : List ℕ) where
  -- what covers a stretch that isn't empty ends by a last place
  pub departure : (e : Tree) (i k : ℕ) → i ≤ k → covers e v i (suc k) ≡ true → Departure v e i k
  departure (Empty n) i k l h = absurd (let e : i ≡ suc k = eqb-true i (suc k) h in omega arith)
  departure (Terminal n q t) i k l h =
      let p = and_parts (nat_eq (suc k) (i + 1)) (holds t (slice_index v i)) h in
      let e : suc k ≡ i + 1 = eqb-true (suc k) (i + 1) p.0 in
      let same : i ≡ k = omega arith in
      let same' : k ≡ i = omega arith in
      record {
        from = q;
        left = [];
        last = last_terminal;
        stood = and_from (nat_eq q q) (nat_eq k i) (eq-eqb q q refl) (eq-eqb k i same');
        opened = and_from (nat_eq q q) (holds t (slice_index v k)) (eq-eqb q q refl)
            (subst (λ m. holds t (slice_index v m) ≡ true) same p.1);
        left_well = left_none;
      }
  departure (Action n a) i k l h = absurd (let e : i ≡ suc k = eqb-true i (suc k) h in omega arith)
  departure (Seq at e f) i k l h =
      let c = split_to i (suc k) (λ m. covers e v i m) (λ m. covers f v m (suc k)) h in
      let low : c.0 < suc (suc k) = omega arith in
      elim (at_or_below c.0 (suc k) low) [
        | inl same ↦
            let d = departure e i k l (subst (λ m. covers e v i m ≡ true) same c.3) in
            let empty : nullable f ≡ true = covers_to_nullable f v (suc k)
            (subst (λ m. covers f v m (suc k) ≡ true) same c.4) in
            departure_into (into_left v k at e f i) (λ p rs t. last_left t empty) d
        | inr less ↦
            let high : c.0 ≤ k = omega arith in
            departure_into (into_right v k at e f i c.0 c.1 high c.3) (λ p rs t. last_right t)
            (departure f c.0 k high c.4)
      ]
  departure (Choice at e f) i k l h = elim (or_cases (covers e v i (suc k)) (covers f v i (suc k)) h) [
    | inl a ↦ departure_into (into_either v k at e f i) (λ p rs t. last_either t) (departure e i k l a)
    | inr b ↦ departure_into (into_or v k at e f i) (λ p rs t. last_or t) (departure f i k l b)
  ]
  departure (Star at e) i k l h =
      let c = repeats-last (covers e v) (suc k - i) i (suc k) (omega arith) h in
      let high : c.0 ≤ k = omega arith in
      departure_into (into_star v k at e i c.0 c.1 high c.3) (λ p rs t. last_star t) (departure e c.0 k high c.4)
  departure (Hold at t e) i k l h =
      let c = and_parts (covers e v i (suc k)) (all_hold t v i (suc k)) h in
      departure_into (into_hold v k at t e i l c.1) (λ p rs t. last_hold t) (departure e i k l c.0)
  departure (Scope at s e x h) i k l g = elim
      (scope-gives i (suc k) (trips e x v i) (covers e v i (suc k)) (λ m. covers h v m (suc k)) g) [
        | inl a ↦
            let d = departure e i k l a.1 in
            let quiet : Quiet (trips e x v i) i k = quiet-less a.0 in
            let here : Outcome v (Scope at s e x h) i k s false = record {
              start = i;
              body = e;
              trap = x;
              lives = lives_here l quiet (stands_to_alive e v i k d.from d.stood);
              outcome = a.0 (suc k) (omega arith) (omega arith);
            } in
            let w : Into v e i (Scope at s e x h) i k = into_body v k at s e x h i quiet in
            record {
              from = d.from;
              left = Body s ∷ d.left;
              last = last_body d.last;
              stood = w.standing d.from d.stood;
              opened = w.opening d.from d.opened;
              left_well = left_body here (left_into w d.left_well);
            }
        | inr b ↦
            let low : b.0 < suc (suc k) = omega arith in
            elim (at_or_below b.0 (suc k) low) [
              | inl same ↦
                  let f : IsFirstPass (trips e x v i) i (suc k) =
                  subst (λ m. IsFirstPass (trips e x v i) i m) same b.2 in
                  let p = trip-parts e x v i k f.passes in
                  let d = departure x i k l p.0 in
                  let quiet : Quiet (trips e x v i) i k = quiet_from_first f in
                  let here : Outcome v (Scope at s e x h) i k s true = record {
                    start = i;
                    body = e;
                    trap = x;
                    lives = lives_here l quiet p.1;
                    outcome = f.passes;
                  } in
                  let w : Into v x i (Scope at s e x h) i k = into_trap v k at s e x h i quiet p.1 in
                  let empty : nullable h ≡ true = covers_to_nullable h v (suc k)
                  (subst (λ m. covers h v m (suc k) ≡ true) same b.3) in
                  record {
                    from = d.from;
                    left = Trap s ∷ d.left;
                    last = last_trap d.last empty;
                    stood = w.standing d.from d.stood;
                    opened = w.opening d.from d.opened;
                    left_well = left_trap here (left_into w d.left_well);
                  }
              | inr less ↦
                  let high : b.0 ≤ k = omega arith in
                  departure_into (into_after v k at s e x h i b.0 high b.2) (λ p rs t. last_after t)
                  (departure h b.0 k high b.3)
            ]
      ]

  -- what is alive was alive one vector before, if it had begun
  pub alive-less : (e : Tree) (i k : ℕ) → i ≤ k → alive e v i (suc k) ≡ true → alive e v i k ≡ true
  alive-less e i k l h = (lasts e v).1 i (suc k) k h l (omega arith)
