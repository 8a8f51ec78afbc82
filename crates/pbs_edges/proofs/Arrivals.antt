-- The step lemma: by which edge a place that stands was reached, and how that edge lies to a live instance.
use Rattle.std.proofs.Common.{◌≡◌, ℕ, suc, ◌-◌, ◌<◌, ◌≤◌, true, false, ◌&&◌, ◌||◌, inl, inr, List, [], ◌∷◌, arith, refl}
use Rattle.std.proofs.Common.{subst}
use Rattle.std.specs.Prelude.{nat_eq}
use Rattle.std.proofs.lemmas.Bool.{false≢true, eqb-true, and_parts, or_cases}
use Rattle.pbs_ast.specs.Trees.{Tree, Spot, Empty, Terminal, Action, Seq, Choice, Star, Hold, Scope}
use Rattle.pbs_derive.specs.Derivations.{covers, alive, stands, trips, all_hold, repeats, some_within}
use Rattle.pbs_edges.specs.Edges.{Round, Body, Trap, Among, First, Follow, follow_seq, follow_star, follow_scope}
use Rattle.pbs_edges.specs.Edges.{within_left, within_right, within_either, within_or, within_star, within_hold}
use Rattle.pbs_edges.specs.Edges.{within_body, within_trap, within_after, first_left, first_right, first_either}
use Rattle.pbs_edges.specs.Edges.{first_or, first_star, first_hold, first_body, first_trap}
use Rattle.pbs_derive.proofs.Positions.{split_to}
use Rattle.pbs_derive.proofs.EmptyStretch.{covers_to_nullable}
use Rattle.pbs_derive.proofs.Places.{alive_to_stands, stands_to_alive}
use Rattle.pbs_edges.proofs.Tests.{Quiet, IsFirstPass, scope-gives, at_or_below, repeats-last}
use Rattle.pbs_edges.proofs.Instances.{Lives, lives_here, lives_left, lives_right, lives_either, lives_or, lives_star}
use Rattle.pbs_edges.proofs.Instances.{lives_hold, lives_body, lives_trap, lives_after, lives-within}
use Rattle.pbs_edges.proofs.Places.{first_from_stands}
use Rattle.pbs_edges.proofs.Steps.{Outcome, Departure, Arrival, Into, outcome_into, left_into, left_trap, stay_body}
use Rattle.pbs_edges.proofs.Steps.{stay_trap, arrival_into, arrival_from_departure, hold-less, into_left, into_right}
use Rattle.pbs_edges.proofs.Steps.{into_either, into_or, into_star, into_hold, into_body, into_trap, into_after}
use Rattle.pbs_edges.proofs.Steps.{trip-parts, quiet-less, quiet_from_first, departure, alive-less}

module _ (v : List ℕ) (k : ℕ) where
  -- an edge within the body, within the trap, and from the trap to the after part
  arrival_body : (at : Spot) (s : ℕ) (e x h : Tree) (i p : ℕ) (rs fs : List Round) → i ≤ k → Quiet (trips e x v i) i
      (suc k) → Arrival v e i k p rs fs
      → Arrival v (Scope at s e x h) i k p (Body s ∷ rs) fs
  arrival_body at s e x h i p rs fs l q d =
      let quiet : Quiet (trips e x v i) i k = quiet-less q in
      let here : Outcome v (Scope at s e x h) i k s false = record {
        start = i;
        body = e;
        trap = x;
        lives = lives_here l quiet (stands_to_alive e v i k d.from d.stood);
        outcome = q (suc k) (omega arith) (omega arith);
      } in
      let w : Into v e i (Scope at s e x h) i k = into_body v k at s e x h i quiet in
      let a : Arrival v (Scope at s e x h) i k p (Body s ∷ rs) fs = record {
        from = d.from;
        node = d.node;
        left = d.left;
        edge = within_body d.edge;
        stood = w.standing d.from d.stood;
        opened = w.opening d.from d.opened;
        left_well = left_into w d.left_well;
        stay_well = stay_body here (record { stays = λ t m. outcome_into w (d.stay_well.stays t m) });
      } in a

  arrival_trap : (at : Spot) (s : ℕ) (e x h : Tree) (i p : ℕ) (rs fs : List Round) → i ≤ k → Quiet (trips e x v i) i
      (suc k) → alive e v i (suc k) ≡ true
      → Arrival v x i k p rs fs → Arrival v (Scope at s e x h) i k p (Trap s ∷ rs) fs
  arrival_trap at s e x h i p rs fs l q c d =
      let quiet : Quiet (trips e x v i) i k = quiet-less q in
      let living : alive e v i k ≡ true = alive-less v e i k l c in
      let here : Outcome v (Scope at s e x h) i k s false = record {
        start = i;
        body = e;
        trap = x;
        lives = lives_here l quiet living;
        outcome = q (suc k) (omega arith) (omega arith);
      } in
      let w : Into v x i (Scope at s e x h) i k = into_trap v k at s e x h i quiet living in
      record {
        from = d.from;
        node = d.node;
        left = d.left;
        edge = within_trap d.edge;
        stood = w.standing d.from d.stood;
        opened = w.opening d.from d.opened;
        left_well = left_into w d.left_well;
        stay_well = stay_trap here (record { stays = λ t m. outcome_into w (d.stay_well.stays t m) });
      }

  arrival_after : (at : Spot) (s : ℕ) (e x h : Tree) (i p : ℕ) (fs : List Round) → i ≤ k → IsFirstPass (trips e x v i) i
      (suc k) → First h p fs
      → Arrival v (Scope at s e x h) i k p [] fs
  arrival_after at s e x h i p fs l f first =
      let c = trip-parts e x v i k f.passes in
      let d = departure v x i k l c.0 in
      let quiet : Quiet (trips e x v i) i k = quiet_from_first f in
      let here : Outcome v (Scope at s e x h) i k s true = record {
        start = i;
        body = e;
        trap = x;
        lives = lives_here l quiet c.1;
        outcome = f.passes;
      } in
      let w : Into v x i (Scope at s e x h) i k = into_trap v k at s e x h i quiet c.1 in
      record {
        from = d.from;
        node = at.number;
        left = Trap s ∷ d.left;
        edge = follow_scope d.last first;
        stood = w.standing d.from d.stood;
        opened = w.opening d.from d.opened;
        left_well = left_trap here (left_into w d.left_well);
        stay_well = record { stays = λ t m. elim m [ inl b ↦ absurd b | inr c ↦ absurd c ] };
      }

module _ (v : List ℕ) where
  Reached : Tree → ℕ → ℕ → ℕ → Type 0
  Reached e i k p = (rs : List Round) × (fs : List Round) × Arrival v e i k p rs fs

  -- the step lemma for places
  pub arrival : (e : Tree) (i k p : ℕ) → i ≤ k → stands e v i (suc k) p ≡ true → (rs : List Round) × (fs : List Round)
      × Arrival v e i k p rs fs
  arrival (Empty n) i k p l h = absurd (false≢true h)
  arrival (Terminal at q t) i k p l h = absurd
      (let e : suc k ≡ i = eqb-true (suc k) i (and_parts (nat_eq p q) (nat_eq (suc k) i) h).1 in omega arith)
  arrival (Action at a) i k p l h = absurd (false≢true h)
  arrival (Seq at e f) i k p l h = elim
      (or_cases (stands e v i (suc k) p) (some_within i (suc k) (λ m. covers e v i m && stands f v m (suc k) p)) h) [
        | inl a ↦ let r = arrival e i k p l a in
            (r.0, r.1, arrival_into (into_left v k at e f i) (λ q m ls t. within_left t) r.2)
        | inr b ↦
            let c = split_to i (suc k) (λ m. covers e v i m) (λ m. stands f v m (suc k) p) b in
            let low : c.0 < suc (suc k) = omega arith in
            elim (at_or_below c.0 (suc k) low) [
              | inl same ↦
                  let d = departure v e i k l (subst (λ m. covers e v i m ≡ true) same c.3) in
                  let r = first_from_stands v f (suc k) p (subst (λ m. stands f v m (suc k) p ≡ true) same c.4) in
                  ([], r.0, arrival_from_departure (into_left v k at e f i) d (follow_seq d.last r.1))
              | inr less ↦
                  let high : c.0 ≤ k = omega arith in
                  let r = arrival f c.0 k p high c.4 in
                  (r.0, r.1, arrival_into (into_right v k at e f i c.0 c.1 high c.3) (λ q m ls t. within_right t) r.2)
            ]
      ]
  arrival (Choice at e f) i k p l h = elim (or_cases (stands e v i (suc k) p) (stands f v i (suc k) p) h) [
    | inl a ↦ let r = arrival e i k p l a in
        (r.0, r.1, arrival_into (into_either v k at e f i) (λ q m ls t. within_either t) r.2)
    | inr b ↦ let r = arrival f i k p l b in
        (r.0, r.1, arrival_into (into_or v k at e f i) (λ q m ls t. within_or t) r.2)
  ]
  arrival (Star at e) i k p l h =
      let c = split_to i (suc k) (λ m. repeats (covers e v) (m - i) i m) (λ m. stands e v m (suc k) p) h in
      let low : c.0 < suc (suc k) = omega arith in
      elim (at_or_below c.0 (suc k) low) [
        | inl same ↦
            let t = repeats-last (covers e v) (suc k - i) i (suc k) (omega arith)
            (subst (λ m. repeats (covers e v) (m - i) i m ≡ true) same c.3) in
            let high : t.0 ≤ k = omega arith in
            let d = departure v e t.0 k high t.4 in
            let r = first_from_stands v e (suc k) p (subst (λ m. stands e v m (suc k) p ≡ true) same c.4) in
            ([], r.0, arrival_from_departure (into_star v k at e i t.0 t.1 high t.3) d (follow_star d.last r.1))
        | inr less ↦
            let high : c.0 ≤ k = omega arith in
            let r = arrival e c.0 k p high c.4 in
            (r.0, r.1, arrival_into (into_star v k at e i c.0 c.1 high c.3) (λ q m ls t. within_star t) r.2)
      ]
  arrival (Hold at t e) i k p l h =
      let c = and_parts (stands e v i (suc k) p) (all_hold t v i (suc k)) h in
      let r = arrival e i k p l c.0 in
      (r.0, r.1, arrival_into (into_hold v k at t e i l c.1) (λ q m ls t. within_hold t) r.2)
  arrival (Scope at s e x h) i k p l g =
      elim (scope-gives i (suc k) (trips e x v i)
      (stands e v i (suc k) p || (stands x v i (suc k) p && alive e v i (suc k))) (λ m. stands h v m (suc k) p) g) [
        | inl a ↦ elim (or_cases (stands e v i (suc k) p) (stands x v i (suc k) p && alive e v i (suc k)) a.1) [
          | inl c ↦ let r = arrival e i k p l c in
              (Body s ∷ r.0, r.1, arrival_body v k at s e x h i p r.0 r.1 l a.0 r.2)
          | inr d ↦
              let c = and_parts (stands x v i (suc k) p) (alive e v i (suc k)) d in
              let r = arrival x i k p l c.0 in
              (Trap s ∷ r.0, r.1, arrival_trap v k at s e x h i p r.0 r.1 l a.0 c.1 r.2)
        ]
        | inr b ↦
            let low : b.0 < suc (suc k) = omega arith in
            elim (at_or_below b.0 (suc k) low) [
              | inl same ↦
                  let f : IsFirstPass (trips e x v i) i (suc k) = subst
                  (λ m. IsFirstPass (trips e x v i) i m) same b.2 in
                  let r = first_from_stands v h (suc k) p (subst (λ m. stands h v m (suc k) p ≡ true) same b.3) in
                  ([], r.0, arrival_after v k at s e x h i p r.0 l f r.1)
              | inr less ↦
                  let high : b.0 ≤ k = omega arith in
                  let r = arrival h b.0 k p high b.3 in
                  (r.0, r.1, arrival_into (into_after v k at s e x h i b.0 high b.2) (λ q m ls t. within_after t) r.2)
            ]
      ]

-- where an instance of scope t is live as the tree begins, a first place lies in the body of t
pub first_from_lives : {v : List ℕ} {e b y : Tree} {i k t a : ℕ} → Lives v e i k t a b y → k ≤ i
    → (p : ℕ) × (rs : List Round) × First e p rs × Among rs (Body t)
first_from_lives {v} (lives_here {s = s} {i = i} {k = k} {e = e} l q h) g =
    let same : k ≡ i = omega arith in
    let r = alive_to_stands e v i k h in
    let f = first_from_stands v e i r.0 (subst (λ m. stands e v i m r.0 ≡ true) same r.1) in
    (r.0, Body s ∷ f.0, first_body f.1, inl refl)
first_from_lives (lives_left h) g = let r = first_from_lives h g in (r.0, r.1, first_left r.2, r.3)
first_from_lives {v} (lives_right {i = i} {m = m} {e = e} low high c h) g =
    let same : m ≡ i = omega arith in
    let r = first_from_lives h (omega arith) in
    (r.0, r.1, first_right (covers_to_nullable e v i (subst (λ m. covers e v i m ≡ true) same c)) r.2, r.3)
first_from_lives (lives_either h) g = let r = first_from_lives h g in (r.0, r.1, first_either r.2, r.3)
first_from_lives (lives_or h) g = let r = first_from_lives h g in (r.0, r.1, first_or r.2, r.3)
first_from_lives (lives_star low high c h) g = let r = first_from_lives h (omega arith) in
    (r.0, r.1, first_star r.2, r.3)
first_from_lives (lives_hold c h) g = let r = first_from_lives h g in (r.0, r.1, first_hold r.2, r.3)
first_from_lives (lives_body {s = s} q h) g = let r = first_from_lives h g in
    (r.0, Body s ∷ r.1, first_body r.2, inr r.3)
first_from_lives (lives_trap {s = s} q c h) g = let r = first_from_lives h g in
    (r.0, Trap s ∷ r.1, first_trap r.2, inr r.3)
first_from_lives (lives_after high f h) g = absurd (let l = f.after in omega arith)

-- an instance that began before and is live was live one vector before
pub lives-less : {v : List ℕ} {e b y : Tree} {i k t a : ℕ} → Lives v e i (suc k) t a b y → a ≤ k → Lives v e i k t a b y
lives-less {v} {k = k} (lives_here {i = i} {e = e} l q h) g = lives_here g (quiet-less q) (alive-less v e i k g h)
lives-less (lives_left h) g = lives_left (lives-less h g)
lives-less (lives_right low high c h) g = let w = lives-within h in lives_right low (omega arith) c (lives-less h g)
lives-less (lives_either h) g = lives_either (lives-less h g)
lives-less (lives_or h) g = lives_or (lives-less h g)
lives-less (lives_star low high c h) g = let w = lives-within h in lives_star low (omega arith) c (lives-less h g)
lives-less {v} {k = k} (lives_hold {i = i} {c = c} d h) g = lives_hold (hold-less c v i k d) (lives-less h g)
lives-less (lives_body q h) g = lives_body (quiet-less q) (lives-less h g)
lives-less {v} {k = k} (lives_trap {i = i} {e = e} q c h) g =
    let w = lives-within h in lives_trap (quiet-less q) (alive-less v e i k (omega arith) c) (lives-less h g)
lives-less (lives_after high f h) g = let w = lives-within h in lives_after (omega arith) f (lives-less h g)

-- an edge that reaches a place in the body of a live instance: it lies inside the body where the instance had begun,
-- and enters the scope where it begins
pub record Follows (v : List ℕ) (e : Tree) (i k t a : ℕ) : Type 0 where
  pub place : ℕ
  pub above : List Round
  pub entered : List Round
  pub arrived : Arrival v e i k place above entered
  pub inside : a ≤ k → Among above (Body t)
  pub enters : a ≡ suc k → Among entered (Body t)

follows_into : {v : List ℕ} {e o : Tree} {i j k t a : ℕ} → Into v e i o j k
    → ((q p n : ℕ) (rs ls fs : List Round) → Follow e q p n rs ls fs → Follow o q p n rs ls fs) → Follows v e i k t a
    → Follows v o j k t a
follows_into w l d = record {
  place = d.place;
  above = d.above;
  entered = d.entered;
  arrived = arrival_into w (λ q n ls f. l q d.place n d.above ls d.entered f) d.arrived;
  inside = d.inside;
  enters = d.enters;
}

-- an edge by the node itself, where the instance begins
follows_from_departure : {v : List ℕ} {e o f : Tree} {i j k t a : ℕ} {z y : Tree} (m : ℕ) → Into v e i o j k →
    (d : Departure v e i k)
    → ((p : ℕ) (fs : List Round) → First f p fs → Follow o d.from p m [] d.left fs) → Lives v f (suc k) (suc k) t a z y
    → Follows v o j k t a
follows_from_departure m w d l h =
    let r = first_from_lives h (omega arith) in
    let in_time = lives-within h in
    record {
      place = r.0;
      above = [];
      entered = r.1;
      arrived = arrival_from_departure w d (l r.0 r.1 r.2);
      inside = λ g. absurd (omega arith);
      enters = λ g. r.3;
    }

-- the step lemma for instances
pub follows : {v : List ℕ} {e b y : Tree} {i k t a : ℕ} → Lives v e i (suc k) t a b y → i ≤ k → Follows v e i k t a
follows {v} {k = k} (lives_here {at = at} {s = s} {i = i} {e = e} {x = x} {h = h} l q c) g =
    let p = alive_to_stands e v i (suc k) c in
    let r = arrival v e i k p.0 g p.1 in
    record {
      place = p.0;
      above = Body s ∷ r.0;
      entered = r.1;
      arrived = arrival_body v k at s e x h i p.0 r.0 r.1 g q r.2;
      inside = λ z. inl refl;
      enters = λ z. absurd (omega arith);
    }
follows {v} {k = k} (lives_left {at = at} {i = i} {e = e} {f = f} h) g =
    follows_into (into_left v k at e f i) (λ q p m rs ls fs t. within_left t) (follows h g)
follows {v} {k = k} {t = t} {a = a}
    (lives_right {at = at} {i = i} {m = m} {b = b} {y = y} {e = e} {f = f} low high c h) g =
    elim (at_or_below m (suc k) (omega arith)) [
      | inl same ↦
          let d = departure v e i k g (subst (λ m. covers e v i m ≡ true) same c) in
          follows_from_departure at.number (into_left v k at e f i) d (λ p fs r. follow_seq d.last r)
          (subst (λ m. Lives v f m (suc k) t a b y) same h)
      | inr less ↦
          let early : m ≤ k = omega arith in
          follows_into (into_right v k at e f i m low early c) (λ q p m rs ls fs t. within_right t) (follows h early)
    ]
follows {v} {k = k} (lives_either {at = at} {i = i} {e = e} {f = f} h) g =
    follows_into (into_either v k at e f i) (λ q p m rs ls fs t. within_either t) (follows h g)
follows {v} {k = k} (lives_or {at = at} {i = i} {e = e} {f = f} h) g =
    follows_into (into_or v k at e f i) (λ q p m rs ls fs t. within_or t) (follows h g)
follows {v} {k = k} {t = t} {a = a} (lives_star {at = at} {i = i} {m = m} {b = b} {y = y} {e = e} low high c h) g =
    elim (at_or_below m (suc k) (omega arith)) [
      | inl same ↦
          let r = repeats-last (covers e v) (suc k - i) i (suc k) (omega arith)
          (subst (λ m. repeats (covers e v) (m - i) i m ≡ true) same c) in
          let early : r.0 ≤ k = omega arith in
          let d = departure v e r.0 k early r.4 in
          follows_from_departure at.number (into_star v k at e i r.0 r.1 early r.3) d (λ p fs r. follow_star d.last r)
          (subst (λ m. Lives v e m (suc k) t a b y) same h)
      | inr less ↦
          let early : m ≤ k = omega arith in
          follows_into (into_star v k at e i m low early c) (λ q p m rs ls fs t. within_star t) (follows h early)
    ]
follows {v} {k = k} (lives_hold {at = at} {i = i} {e = e} {c = c} d h) g =
    follows_into (into_hold v k at c e i g d) (λ q p m rs ls fs t. within_hold t) (follows h g)
follows {v} {k = k} (lives_body {at = at} {s = s} {i = i} {e = e} {x = x} {h = h} q l) g =
    let r = follows l g in
    record {
      place = r.place;
      above = Body s ∷ r.above;
      entered = r.entered;
      arrived = arrival_body v k at s e x h i r.place r.above r.entered g q r.arrived;
      inside = λ z. inr (r.inside z);
      enters = r.enters;
    }
follows {v} {k = k} (lives_trap {at = at} {s = s} {i = i} {e = e} {x = x} {h = h} q c l) g =
    let r = follows l g in
    record {
      place = r.place;
      above = Trap s ∷ r.above;
      entered = r.entered;
      arrived = arrival_trap v k at s e x h i r.place r.above r.entered g q c r.arrived;
      inside = λ z. inr (r.inside z);
      enters = r.enters;
    }
follows {v} {k = k} {t = t} {a = a}
    (lives_after {at = at} {s = s} {i = i} {m = m} {b = b} {y = y} {e = e} {x = x} {h = h} high f l) g =
    elim (at_or_below m (suc k) (omega arith)) [
      | inl same ↦
          let first : IsFirstPass (trips e x v i) i (suc k) = subst (λ m. IsFirstPass (trips e x v i) i m) same f in
          let later : Lives v h (suc k) (suc k) t a b y = subst (λ m. Lives v h m (suc k) t a b y) same l in
          let r = first_from_lives later (omega arith) in
          let in_time = lives-within later in
          record {
            place = r.0;
            above = [];
            entered = r.1;
            arrived = arrival_after v k at s e x h i r.0 r.1 g first r.2;
            inside = λ z. absurd (omega arith);
            enters = λ z. r.3;
          }
      | inr less ↦
          let early : m ≤ k = omega arith in
          follows_into (into_after v k at s e x h i m early f) (λ q p m rs ls fs t. within_after t) (follows l early)
    ]
