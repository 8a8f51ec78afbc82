-- Stars in the machine.
use Rattle.std.proofs.Common.{◌≡◌, ℕ, zero, suc, ◌-◌, ◌<◌, ◌≤◌, Bool, true, false, ◌&&◌, List, inl, inr, refl, sym, ◌∙◌}
use Rattle.std.proofs.Common.{ap, arith, ◌↔◌}
use Rattle.std.proofs.lemmas.Bool.{and_parts, and_from, true≢false, cases_lt, or_left, or_right}
use Rattle.pbs_ast.specs.Trees.{Spot, Tree, Star, has_terminal}
use Rattle.pbs_derive.proofs.Shapes.{WellFormed}
use Rattle.pbs_derive.specs.Derivations.{covers, alive, live, repeats}
use Rattle.pbs_derive.proofs.Reached.{reaches}
use Rattle.pbs_machine.specs.Nodes.{From, ClearBelow}
use Rattle.pbs_machine.specs.Rows.{ends, stays, body_start}
use Rattle.pbs_derive.proofs.Positions.{split_from, or_elim, within_to, within_from}
use Rattle.pbs_derive.proofs.Repeats.{Repeats, repeats_none, repeats_from, repeats_last, last_of}
use Rattle.pbs_derive.proofs.EmptyStretch.{terminal_to_alive, alive_to_terminal}
use Rattle.pbs_machine.proofs.Starts.{from_map, from_or, from_fresh, from_more, from_cases, from_zero, Hands, Through}
use Rattle.pbs_machine.proofs.Starts.{hands_to, hands_from, clear_less, clear_handed}
use Rattle.pbs_machine.proofs.Contract.{Meets, ends_outer}

-- the start bit of a star's body
abbrev pub again_start : Tree → (ℕ → ℕ → Bool) → (ℕ → ℕ) → (ℕ → Bool) → (ℕ → Bool) → (ℕ → Bool) → ℕ → Bool
again_start e old input outer start keep k = body_start (start k) (keep k) (ends e (old k) (input k) (outer k))

abbrev pub Repeated : Tree → List ℕ → ℕ → ℕ → Type 0
Repeated e v i m = Repeats (covers e v) i m

clear_body : (spot : Spot) → (e : Tree) (v : List ℕ) (start second keep outer : ℕ → Bool) (k n : ℕ) → n ≤ suc k
    → Hands start second keep outer (Repeated e v) k
    → ClearBelow (Star spot e) v start keep outer n → ClearBelow e v second keep outer n
clear_body spot e v start second keep outer k n row hands c =
    clear_handed (Star spot e) e v start second keep outer (Repeated e v) k n row hands
    (λ i m t s n low high a b. split_from i t (covers (Star spot e) v i) (λ m. live e v m t s n) m low high
    (repeats_from (covers e v) i m a) b) c

-- the body's ends in a row, seen from the star's starts
body_ends : (spot : Spot) → (e : Tree) (v : List ℕ) (old : ℕ → ℕ → Bool) (input : ℕ → ℕ) (outer start second keep : ℕ
    → Bool)
    → Meets e v old input outer second keep → (k : ℕ) → Hands start second keep outer (Repeated e v) k
    → ClearBelow (Star spot e) v start keep outer (suc k)
    → (ends e (old (suc k)) (input (suc k)) (outer (suc k)) ≡ true) ↔ From start keep outer k (suc k)
    (λ i. Repeated e v i (suc k))
body_ends spot e v old input outer start second keep m k hands c =
    let right = m.ends_right k (clear_body spot e v start second keep outer k (suc k) (omega arith) hands c) in (
      λ h. from_map (hands_to hands (right.0 h) (omega arith))
          (λ i _ r. repeats_last (covers e v) r.3.0 i r.0 (suc k) r.3.1 (let le : r.0 ≤ k = r.2 in omega arith) r.4),
      λ w. right.1 (hands_from hands (from_map w (λ i low r. elim (last_of (covers e v) r.0 i (suc k) r.1) [
        | inl same ↦ let q : i ≡ suc k = same in absurd (omega arith)
        | inr l ↦ let lt : l.0 < suc k = l.2 in (l.0, l.1, omega arith, l.3, l.4)
      ])) (omega arith)),
    )

star_step : (spot : Spot) → (e : Tree) (v : List ℕ) (old : ℕ → ℕ → Bool) (input : ℕ → ℕ) (outer start keep : ℕ → Bool)
    → outer 0 ≡ false
    → Meets e v old input outer (again_start e old input outer start keep) keep → (m : ℕ)
    → ClearBelow (Star spot e) v start keep outer m
    → ((k : ℕ) → m ≡ suc k → Hands start (again_start e old input outer start keep) keep outer (Repeated e v) k)
    → (again_start e old input outer start keep m ≡ true) ↔ From start keep outer m m (λ i. Repeated e v i m)
star_step spot e v old input outer start keep off meets zero c before = (
  λ h. or_elim (start 0) (ends e (old 0) (input 0) (outer 0) && keep 0) h
      (λ l. from_fresh l (0, repeats_none (covers e v) 0 0 0 refl))
      (λ r. absurd (true≢false (sym
      (ends_outer e (old 0) (input 0) (outer 0) (and_parts (ends e (old 0) (input 0) (outer 0)) (keep 0) r).0)
      ∙ off))),
  λ w. or_left _ _ (from_zero w).0,
)
star_step spot e v old input outer start keep off meets (suc k) c before =
    let E = ends e (old (suc k)) (input (suc k)) (outer (suc k)) in
    let right = body_ends spot e v old input outer start (again_start e old input outer start keep) keep meets k
    (before k refl) c in (
      λ h. or_elim (start (suc k)) (E && keep (suc k)) h
          (λ l. from_fresh l (0, repeats_none (covers e v) 0 (suc k) (suc k) refl))
          (λ r. let p = and_parts E (keep (suc k)) r in from_more p.1 (right.0 p.0)),
      λ w. elim (from_cases w) [
        | inl now ↦ or_left _ _ now.0
        | inr earlier ↦ or_right _ _ (and_from _ _ (right.1 earlier.1) earlier.0)
      ],
    )

-- a star hands a start on where repetitions have covered the stretch
pub star_hands : (spot : Spot) → (e : Tree) (v : List ℕ) (old : ℕ → ℕ → Bool) (input : ℕ → ℕ)
    (outer start keep : ℕ → Bool) → outer 0 ≡ false
    → Meets e v old input outer (again_start e old input outer start keep) keep → (n : ℕ)
    → ClearBelow (Star spot e) v start keep outer n
    → Hands start (again_start e old input outer start keep) keep outer (Repeated e v) n
star_hands spot e v old input outer start keep off meets zero c =
    λ m low. star_step spot e v old input outer start keep off meets m
    (clear_less (Star spot e) v start keep outer 0 m low c) (λ k q. absurd (omega arith))
star_hands spot e v old input outer start keep off meets (suc n) c =
    let below = star_hands spot e v old input outer start keep off meets n
    (clear_less (Star spot e) v start keep outer (suc n) n (omega arith) c) in
    λ m low. star_step spot e v old input outer start keep off meets m
    (clear_less (Star spot e) v start keep outer (suc n) m low c)
    (λ k q j le. below j (omega arith))

pub meets_star : (spot : Spot) → (e : Tree) (v : List ℕ) (old : ℕ → ℕ → Bool) (input : ℕ → ℕ)
    (outer start keep : ℕ → Bool) → outer 0 ≡ false → WellFormed e
    → Meets e v old input outer (again_start e old input outer start keep) keep
    → Meets (Star spot e) v old input outer start keep
meets_star spot e v old input outer start keep off good m =
    let second = again_start e old input outer start keep in
    let C : ℕ → ℕ → Type 0 = Repeated e v in
    let hands : (k : ℕ) → ClearBelow (Star spot e) v start keep outer k
    → Hands start second keep outer C k = star_hands spot e v old input outer start keep off m in
    let less : (k : ℕ) → ClearBelow (Star spot e) v start keep outer (suc k)
    → ClearBelow (Star spot e) v start keep outer k = λ k c. clear_less (Star spot e) v start keep outer (suc k) k
    (omega arith) c in
    let whole : (k : ℕ) → ClearBelow (Star spot e) v start keep outer (suc k)
    → (ends e (old (suc k)) (input (suc k)) (outer (suc k)) ≡ true) ↔ From start keep outer k (suc k)
    (λ i. Repeated e v i (suc k)) =
    λ k c. body_ends spot e v old input outer start second keep m k (hands k (less k c)) c in
    record {
      ends_right = λ k c. (
        λ h. from_map ((whole k c).0 h) (λ i _ r. repeats_from (covers e v) i (suc k) r),
        λ w. (whole k c).1 (from_map w (λ i _ r. (suc k - i, r))),
      );
      stays_right = λ k c.
          let handed = hands k (less k c) in
          let right = m.stays_right k (clear_body spot e v start second keep outer k (suc k) (omega arith) handed c) in
          let E = ends e (old (suc k)) (input (suc k)) (outer (suc k)) in
          let A = stays e (old (suc k)) (input (suc k)) (outer (suc k)) in
          let S : ℕ → Type 0 = λ j. alive e v j (suc k) ≡ true in
          let X : ℕ → ℕ → Bool = λ i m. repeats (covers e v) (m - i) i m && alive e v m (suc k) in (
            λ h. or_elim A (E && has_terminal e) h (λ l. from_map (hands_to handed (right.0 l) (omega arith))
                (λ i _ r. within_from i (suc k) (X i) r.0 r.1 (let le : r.0 ≤ k = r.2 in omega arith)
                (and_from _ _ (repeats_from (covers e v) i r.0 r.3) r.4)))
                (λ r. let p = and_parts E (has_terminal e) r in
                from_map ((whole k c).0 p.0)
                (λ i le a. within_from i (suc k) (X i) (suc k) (omega arith) (omega arith)
                (and_from _ _ (repeats_from (covers e v) i (suc k) a) (terminal_to_alive e v (suc k) good p.1)))),
            λ w. from_or {S = (Through C k S)} {T = (λ i. C i (suc k) × S (suc k))} w (λ i le a.
                let u = within_to i (suc k) (X i) a in
                let p = and_parts (repeats (covers e v) (u.0 - i) i u.0) (alive e v u.0 (suc k)) u.3 in
                let high : u.0 ≤ suc k = u.2 in
                elim (cases_lt u.0 (suc k)) [
                  | inl before ↦ inl (u.0, u.1, omega arith, (u.0 - i, p.0), p.1)
                  | inr now ↦ let same : u.0 ≡ suc k = omega arith in
                      inr (
                        (u.0 - i, ap (repeats (covers e v) (u.0 - i) i) (sym same) ∙ p.0),
                        ap (λ j. alive e v j (suc k)) (sym same) ∙ p.1,
                      )
                ]) (λ l. or_left _ _ (right.1 (hands_from handed l (omega arith)))) (λ r. or_right _ _ (and_from _ _
                ((whole k c).1 (from_map r (λ i _ a. a.0)))
                (alive_to_terminal e v (suc k) r.reached.1))),
          );
      started_right = λ mark k c.
          let handed = hands k c in
          let right = m.started_right mark k (clear_body spot e v start second keep outer k k (omega arith) handed c) in
          let X : ℕ → ℕ → Bool = λ i m. repeats (covers e v) (m - i) i m && reaches e mark v m k in (
            λ h. from_map (hands_to handed (right.0 h) (omega arith))
                (λ i _ r. within_from i k (X i) r.0 r.1 r.2 (and_from _ _ (repeats_from (covers e v) i r.0 r.3) r.4)),
            λ w. right.1 (hands_from (hands k c) (from_map w (λ i _ a. let u = within_to i k (X i) a in
                let p = and_parts (repeats (covers e v) (u.0 - i) i u.0) (reaches e mark v u.0 k) u.3 in
                (u.0, u.1, u.2, (u.0 - i, p.0), p.1))) (omega arith)),
          );
    }
