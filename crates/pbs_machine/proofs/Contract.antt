-- What each node of the machine keeps, and the nodes without scopes.
use Rattle.std.proofs.Common.{◌≡◌, ℕ, zero, suc, ◌+◌, ◌<◌, ◌≤◌, Bool, true, not, ◌&&◌, ◌||◌, nat_eq, List, slice_index}
use Rattle.std.proofs.Common.{◌⊎◌, inl, inr, refl, sym, ◌∙◌, ap, arith, ◌↔◌}
use Rattle.std.proofs.lemmas.Bool.{and_parts, and_from, false≢true, eqb-true, eq-eqb, or_left, or_right}
use Rattle.bool_terms.specs.Terms.{Term, holds}
use Rattle.pbs_ast.specs.Trees.{Spot, Tree, Empty, Terminal, Action, Seq, Choice, Star, Hold, Scope, nullable}
use Rattle.pbs_ast.specs.Trees.{has_terminal}
use Rattle.pbs_derive.specs.Derivations.{covers, alive, live, all_hold}
use Rattle.pbs_derive.proofs.Reached.{reaches}
use Rattle.pbs_machine.specs.Nodes.{From, ClearBelow}
use Rattle.pbs_machine.specs.Rows.{ends, stays, started}
use Rattle.pbs_machine.proofs.Driven.{Driven}
use Rattle.pbs_derive.proofs.Positions.{or_elim, all_hold_to, all_hold_from}
use Rattle.pbs_machine.proofs.Starts.{from_held, on_none, on_one, from_map, from_fresh, from_or, from_none, clear_part}

-- what a node of the machine shows in each row in whose past no scope was begun again while it was live
pub record Meets (e : Tree) (v : List ℕ) (old : ℕ → ℕ → Bool) (input : ℕ → ℕ)
    (outer start keep : ℕ → Bool) : Type 0 where
  pub ends_right : (k : ℕ) → ClearBelow e v start keep outer (suc k)
      → (ends e (old (suc k)) (input (suc k)) (outer (suc k)) ≡ true) ↔ From start keep outer k (suc k)
      (λ i. covers e v i (suc k) ≡ true)
  pub stays_right : (k : ℕ) → ClearBelow e v start keep outer (suc k)
      → (stays e (old (suc k)) (input (suc k)) (outer (suc k)) ≡ true) ↔ From start keep outer k (suc k)
      (λ i. alive e v i (suc k) ≡ true)
  pub started_right : (mark : Tree → Bool) (k : ℕ) → ClearBelow e v start keep outer k
      → (started e mark (old k) (input k) (outer k) (start k) (keep k) ≡ true) ↔ From start keep outer k k
      (λ i. reaches e mark v i k ≡ true)

-- nothing ends where a hold round the node fails
pub ends_outer : (e : Tree) (old : ℕ → Bool) (x : ℕ) (outer : Bool) → ends e old x outer ≡ true → outer ≡ true
ends_outer (Empty spot) old x outer h = absurd (false≢true h)
ends_outer (Action spot a) old x outer h = absurd (false≢true h)
ends_outer (Terminal spot p t) old x outer h = (and_parts outer (holds t x) (and_parts (old p) _ h).1).0
ends_outer (Seq spot e f) old x outer h = or_elim _ _ h (ends_outer f old x outer)
    (λ r. ends_outer e old x outer (and_parts _ _ r).0)
ends_outer (Choice spot e f) old x outer h = or_elim _ _ h (ends_outer e old x outer) (ends_outer f old x outer)
ends_outer (Star spot e) old x outer h = ends_outer e old x outer h
ends_outer (Hold spot t e) old x outer h = (and_parts outer _ (ends_outer e old x (outer && holds t x) h)).0
ends_outer (Scope spot s e c h) old x outer g =
    let body = ends e old x outer in let trap = ends c old x outer in let after = ends h old x outer in
    or_elim (body && not trap) (after || (trap && nullable h)) g
    (λ l. ends_outer e old x outer (and_parts body (not trap) l).0)
    (λ r. or_elim after (trap && nullable h) r (ends_outer h old x outer)
    (λ q. ends_outer c old x outer (and_parts trap (nullable h) q).0))

pub stays_outer : (e : Tree) (old : ℕ → Bool) (x : ℕ) (outer : Bool) → stays e old x outer ≡ true → outer ≡ true
stays_outer (Empty spot) old x outer h = absurd (false≢true h)
stays_outer (Action spot a) old x outer h = absurd (false≢true h)
stays_outer (Terminal spot p t) old x outer h = absurd (false≢true h)
stays_outer (Seq spot e f) old x outer h =
    or_elim _ _ h (stays_outer e old x outer)
    (λ r. or_elim _ _ r (stays_outer f old x outer) (λ q. ends_outer e old x outer (and_parts _ _ q).0))
stays_outer (Choice spot e f) old x outer h = or_elim _ _ h (stays_outer e old x outer) (stays_outer f old x outer)
stays_outer (Star spot e) old x outer h =
    or_elim _ _ h (stays_outer e old x outer) (λ r. ends_outer e old x outer (and_parts _ _ r).0)
stays_outer (Hold spot t e) old x outer h = (and_parts outer _ (stays_outer e old x (outer && holds t x) h)).0
stays_outer (Scope spot s e c h) old x outer g =
    let body = stays e old x outer in let trap = ends c old x outer in let after = stays h old x outer in
    or_elim (body && not trap) (after || (trap && has_terminal h)) g
    (λ l. stays_outer e old x outer (and_parts body (not trap) l).0)
    (λ r. or_elim after (trap && has_terminal h) r (stays_outer h old x outer)
    (λ q. ends_outer c old x outer (and_parts trap (has_terminal h) q).0))

pub or_sum : (x y : Bool) → (x || y) ≡ true → (x ≡ true) ⊎ (y ≡ true)
or_sum x y h = or_elim x y h (λ l. inl l) (λ r. inr r)

pub meets_empty : (spot : Spot) → (v : List ℕ) (old : ℕ → ℕ → Bool) (input : ℕ → ℕ) (outer start keep : ℕ → Bool)
    → Meets (Empty spot) v old input outer start keep
meets_empty spot v old input outer start keep = record {
  ends_right = λ k c. (
    λ h. absurd (false≢true h),
    λ w.
        absurd (let le : w.at ≤ k = w.early in let q : w.at ≡ suc k = eqb-true w.at (suc k) w.reached in omega arith),
  );
  stays_right = λ k c. (λ h. absurd (false≢true h), from_none);
  started_right = λ mark k c. (λ h. absurd (false≢true h), from_none);
}

leaf_started : (mark : Bool) (start keep outer : ℕ → Bool) (k : ℕ) → ((mark && start k) ≡ true)
    ↔ From start keep outer k k (λ i. (mark && nat_eq k i) ≡ true)
leaf_started mark start keep outer k = (
  λ h. let p = and_parts mark (start k) h in from_fresh p.1 (and_from _ _ p.0 (eq-eqb k k refl)),
  λ w. let p = and_parts mark (nat_eq k w.at) w.reached in and_from _ _ p.0 (ap start (eqb-true k w.at p.1) ∙ w.begun),
)

pub meets_action : (spot : Spot) → (a : ℕ) (v : List ℕ) (old : ℕ → ℕ → Bool) (input : ℕ → ℕ)
    (outer start keep : ℕ → Bool) → Meets (Action spot a) v old input outer start keep
meets_action spot a v old input outer start keep = record {
  ends_right = λ k c. (
    λ h. absurd (false≢true h),
    λ w.
        absurd (let le : w.at ≤ k = w.early in let q : w.at ≡ suc k = eqb-true w.at (suc k) w.reached in omega arith),
  );
  stays_right = λ k c. (λ h. absurd (false≢true h), from_none);
  started_right = λ mark k c. leaf_started (mark (Action spot a)) start keep outer k;
}

pub meets_terminal : (spot : Spot) → (p : ℕ) (t : Term) (v : List ℕ) (old : ℕ → ℕ → Bool) (input : ℕ → ℕ)
    (outer start keep : ℕ → Bool)
    → ((k : ℕ) → input (suc k) ≡ slice_index v k) → Driven (Terminal spot p t) old input outer start keep
    → Meets (Terminal spot p t) v old input outer start keep
meets_terminal spot p t v old input outer start keep shows driven = record {
  ends_right = λ k c. (
    λ h.
        let a = and_parts (old (suc k) p) _ h in
        let b = and_parts (outer (suc k)) (holds t (input (suc k))) a.1 in
        record {
          at = k;
          early = omega arith;
          begun = sym (driven k) ∙ a.0;
          kept = on_none keep k;
          held = on_one outer k b.0;
          reached = and_from _ _ (eq-eqb (suc k) (k + 1) (omega arith)) (ap (holds t) (sym (shows k)) ∙ b.1);
        },
    λ w.
        let a = and_parts (nat_eq (suc k) (w.at + 1)) (holds t (slice_index v w.at)) w.reached in
        let q : suc k ≡ w.at + 1 = eqb-true (suc k) (w.at + 1) a.0 in
        let same : w.at ≡ k = omega arith in
        and_from _ _ (driven k ∙ (ap start (sym same) ∙ w.begun))
        (and_from _ _ (w.held (suc k) (omega arith) (omega arith))
        (ap (holds t) (shows k ∙ ap (slice_index v) (sym same)) ∙ a.1)),
  );
  stays_right = λ k c. (
    λ h. absurd (false≢true h),
    λ w. absurd (let le : w.at ≤ k = w.early in let q : suc k ≡ w.at = eqb-true (suc k) w.at w.reached in omega arith),
  );
  started_right = λ mark k c. leaf_started (mark (Terminal spot p t)) start keep outer k;
}

pub meets_choice : (spot : Spot) → (e f : Tree) (v : List ℕ) (old : ℕ → ℕ → Bool) (input : ℕ → ℕ)
    (outer start keep : ℕ → Bool)
    → Meets e v old input outer start keep → Meets f v old input outer start keep
    → Meets (Choice spot e f) v old input outer start keep
meets_choice spot e f v old input outer start keep m n =
    let left : (k : ℕ) → ClearBelow (Choice spot e f) v start keep outer k → ClearBelow e v start keep outer k = λ k.
    clear_part (Choice spot e f) e v start keep outer k (λ i t s j. or_left _ _) in
    let right : (k : ℕ) → ClearBelow (Choice spot e f) v start keep outer k → ClearBelow f v start keep outer k = λ k.
    clear_part (Choice spot e f) f v start keep outer k (λ i t s j. or_right _ _) in
    let both : (P Q : ℕ → Bool) (x y : Bool) (a b : ℕ) → ((x ≡ true) ↔ From start keep outer a b (λ i. P i ≡ true))
    → ((y ≡ true) ↔ From start keep outer a b (λ i. Q i ≡ true))
    → ((x || y) ≡ true) ↔ From start keep outer a b (λ i. (P i || Q i) ≡ true) =
    λ P Q x y a b g h. (
      λ o. or_elim x y o (λ l. from_map (g.0 l) (λ i _. or_left _ _))
          (λ r. from_map (h.0 r) (λ i _. or_right _ _)),
      λ w. from_or {S = (λ i. P i ≡ true)} {T = (λ i. Q i ≡ true)} w (λ i _. or_sum _ _) (λ l. or_left _ _ (g.1 l))
          (λ r. or_right _ _ (h.1 r)),
    ) in
    record {
      ends_right = λ k c. both (λ i. covers e v i (suc k)) (λ i. covers f v i (suc k)) _ _ k (suc k)
          (m.ends_right k (left (suc k) c)) (n.ends_right k (right (suc k) c));
      stays_right = λ k c. both (λ i. alive e v i (suc k)) (λ i. alive f v i (suc k)) _ _ k (suc k)
          (m.stays_right k (left (suc k) c)) (n.stays_right k (right (suc k) c));
      started_right = λ mark k c. both (λ i. reaches e mark v i k) (λ i. reaches f mark v i k) _ _ k k
          (m.started_right mark k (left k c)) (n.started_right mark k (right k c));
    }

-- a hold's term joins the outer holds
pub on_pred : (signal : ℕ → Bool) (i k : ℕ) → ((m : ℕ) → i ≤ m → m < k → signal (suc m) ≡ true) → (q : ℕ) → i < q
    → q ≤ k → signal q ≡ true
on_pred signal i k f zero low high = absurd (omega arith)
on_pred signal i k f (suc m) low high = f m (omega arith) (omega arith)

abbrev pub with_hold : Term → (ℕ → ℕ) → (ℕ → Bool) → ℕ → Bool
with_hold t input outer k = outer k && holds t (input k)

hold_to : (t : Term) (v : List ℕ) (input : ℕ → ℕ) (outer start keep : ℕ → Bool) (a b : ℕ) (P : ℕ → Bool)
    → ((k : ℕ) → input (suc k) ≡ slice_index v k)
    → From start keep (with_hold t input outer) a b (λ i. P i ≡ true) → From start keep outer a b
    (λ i. (P i && all_hold t v i b) ≡ true)
hold_to t v input outer start keep a b P shows w =
    (from_held w w.kept (λ q low high. (and_parts (outer q) _ (w.held q low high)).0)
    (and_from _ _ w.reached (all_hold_from t v w.at b
    (λ m low high. ap (holds t) (sym (shows m))
    ∙ (and_parts (outer (suc m)) (holds t (input (suc m))) (w.held (suc m) (omega arith) (omega arith))).1))))

hold_from : (t : Term) (v : List ℕ) (input : ℕ → ℕ) (outer start keep : ℕ → Bool) (a b : ℕ) (P : ℕ → Bool)
    → ((k : ℕ) → input (suc k) ≡ slice_index v k)
    → From start keep outer a b (λ i. (P i && all_hold t v i b) ≡ true)
    → From start keep (with_hold t input outer) a b (λ i. P i ≡ true)
hold_from t v input outer start keep a b P shows w =
    let p = and_parts (P w.at) (all_hold t v w.at b) w.reached in
    from_held w w.kept (on_pred (with_hold t input outer) w.at b
    (λ m low high. and_from _ _ (w.held (suc m) (omega arith) (omega arith))
    (ap (holds t) (shows m) ∙ all_hold_to t v w.at b p.1 m low high))) p.0

pub meets_hold : (spot : Spot) → (t : Term) (e : Tree) (v : List ℕ) (old : ℕ → ℕ → Bool) (input : ℕ → ℕ)
    (outer start keep : ℕ → Bool)
    → ((k : ℕ) → input (suc k) ≡ slice_index v k)
    → Meets e v old input (with_hold t input outer) start keep → Meets (Hold spot t e) v old input outer start keep
meets_hold spot t e v old input outer start keep shows m =
    let inner : (k : ℕ) → ClearBelow (Hold spot t e) v start keep outer k
    → ClearBelow e v start keep (with_hold t input outer) k =
    λ k c n le s j lt a b. c n le s j lt (hold_to t v input outer start keep n n (λ i. live e v i n s j) shows a)
    (hold_to t v input outer start keep n n (λ i. live e v i n s n) shows b) in
    let both : (P : ℕ → Bool) (x : Bool) (a b : ℕ)
    → ((x ≡ true) ↔ From start keep (with_hold t input outer) a b (λ i. P i ≡ true))
    → (x ≡ true) ↔ From start keep outer a b (λ i. (P i && all_hold t v i b) ≡ true) =
    λ P x a b g. (
      λ h. hold_to t v input outer start keep a b P shows (g.0 h),
      λ w.
          g.1 (hold_from t v input outer start keep a b P shows w),
    ) in
    record {
      ends_right = λ k c. both (λ i. covers e v i (suc k)) _ k (suc k) (m.ends_right k (inner (suc k) c));
      stays_right = λ k c. both (λ i. alive e v i (suc k)) _ k (suc k) (m.stays_right k (inner (suc k) c));
      started_right = λ mark k c. both (λ i. reaches e mark v i k) _ k k (m.started_right mark k (inner k c));
    }
