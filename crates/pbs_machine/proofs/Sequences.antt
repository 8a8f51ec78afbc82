-- Sequences and stars in the machine.
use Rattle.std.proofs.Common.{◌≡◌, ℕ, zero, suc, ◌≤◌, Bool, true, false, ◌&&◌, ◌||◌, List, ◌⊎◌, inl, inr, refl, sym}
use Rattle.std.proofs.Common.{◌∙◌, ap, arith, ◌↔◌}
use Rattle.std.proofs.lemmas.Bool.{and_parts, and_from, true≢false, cases_lt, or_left, or_right}
use Rattle.pbs_ast.specs.Trees.{Spot, Tree, Seq, nullable, has_terminal}
use Rattle.pbs_derive.proofs.Shapes.{WellFormed}
use Rattle.pbs_derive.specs.Derivations.{covers, alive, live, some_within}
use Rattle.pbs_derive.proofs.Reached.{reaches}
use Rattle.pbs_machine.specs.Nodes.{From, ClearBelow}
use Rattle.pbs_machine.specs.Rows.{ends, stays, started, right_start}
use Rattle.pbs_derive.proofs.Positions.{split_to, split_from, or_elim}
use Rattle.pbs_derive.proofs.EmptyStretch.{nullable_to_covers, covers_to_nullable, terminal_to_alive, alive_to_terminal}
use Rattle.pbs_machine.proofs.Starts.{from_map, from_or, from_fresh, from_more, from_cases, from_zero, Hands, Through}
use Rattle.pbs_machine.proofs.Starts.{hands_to, hands_from, clear_less, clear_part, clear_handed}
use Rattle.pbs_machine.proofs.Contract.{Meets, ends_outer}

-- the start bit of a sequence's right part
abbrev pub second_start : Tree → (ℕ → ℕ → Bool) → (ℕ → ℕ) → (ℕ → Bool) → (ℕ → Bool) → (ℕ → Bool) → ℕ → Bool
second_start e old input outer start keep k = right_start (start k) (keep k) (ends e (old k) (input k) (outer k))
    (nullable e)

-- a sequence hands a start on where its left part has covered the stretch
pub sequence_hands : (e : Tree) (v : List ℕ) (old : ℕ → ℕ → Bool) (input : ℕ → ℕ) (outer start keep : ℕ → Bool)
    → outer 0 ≡ false
    → Meets e v old input outer start keep → (m : ℕ) → ClearBelow e v start keep outer m
    → (second_start e old input outer start keep m ≡ true) ↔ From start keep outer m m (λ i. covers e v i m ≡ true)
sequence_hands e v old input outer start keep off meets zero c = (
  λ h. or_elim (ends e (old 0) (input 0) (outer 0) && keep 0) (start 0 && nullable e) h
      (λ l. absurd (true≢false (sym
      (ends_outer e (old 0) (input 0) (outer 0) (and_parts (ends e (old 0) (input 0) (outer 0)) (keep 0) l).0)
      ∙ off)))
      (λ r. let p = and_parts (start 0) (nullable e) r in
      from_fresh p.0 (nullable_to_covers e v 0 p.1)),
  λ w. let p = from_zero w in
      or_right _ _ (and_from _ _ p.0 (covers_to_nullable e v 0 p.1)),
)
sequence_hands e v old input outer start keep off meets (suc k) c =
    let E = ends e (old (suc k)) (input (suc k)) (outer (suc k)) in
    let right = meets.ends_right k c in (
      λ h. or_elim (E && keep (suc k)) (start (suc k) && nullable e) h
          (λ l. let p = and_parts E (keep (suc k)) l in from_more p.1 (right.0 p.0))
          (λ r. let p = and_parts (start (suc k)) (nullable e) r in
          from_fresh p.0 (nullable_to_covers e v (suc k) p.1)),
      λ w. elim (from_cases w) [
        | inl now ↦ or_right _ _ (and_from _ _ now.0 (covers_to_nullable e v (suc k) now.1))
        | inr before ↦ or_left _ _ (and_from _ _ (right.1 before.1) before.0)
      ],
    )

-- what a sequence does by its right part: a stretch of the left part that ends before row b, or in it
split_last : (e : Tree) (v : List ℕ) (i k b : ℕ) (P : ℕ → Bool) → i ≤ k → b ≡ suc k → some_within i b
    (λ m. covers e v i m && P m) ≡ true
    → Through (λ i m. covers e v i m ≡ true) k (λ m. P m ≡ true) i ⊎ ((covers e v i b ≡ true) × (P b ≡ true))
split_last e v i k b P low last h =
    let w = split_to i b (covers e v i) P h in
    let high : w.0 ≤ b = w.2 in
    elim (cases_lt w.0 b) [
      | inl before ↦ inl (w.0, w.1, omega arith, w.3, w.4)
      | inr now ↦ let same : w.0 ≡ b = omega arith in inr (ap (covers e v i) (sym same) ∙ w.3, ap P (sym same) ∙ w.4)
    ]

pub meets_seq : (spot : Spot) → (e f : Tree) (v : List ℕ) (old : ℕ → ℕ → Bool) (input : ℕ → ℕ)
    (outer start keep : ℕ → Bool) → outer 0 ≡ false → WellFormed f
    → Meets e v old input outer start keep → Meets f v old input outer (second_start e old input outer start keep) keep
    → Meets (Seq spot e f) v old input outer start keep
meets_seq spot e f v old input outer start keep off good m n =
    let second = second_start e old input outer start keep in
    let C : ℕ → ℕ → Type 0 = λ i j. covers e v i j ≡ true in
    let left : (k : ℕ) → ClearBelow (Seq spot e f) v start keep outer k → ClearBelow e v start keep outer k = λ k.
    clear_part (Seq spot e f) e v start keep outer k (λ i t s j. or_left _ _) in
    let hands : (k : ℕ) → ClearBelow (Seq spot e f) v start keep outer k → Hands start second keep outer C k =
    λ k c j low. sequence_hands e v old input outer start keep off m j
    (clear_less e v start keep outer k j low (left k c)) in
    let right : (k n : ℕ) → n ≤ suc k → Hands start second keep outer C k
    → ClearBelow (Seq spot e f) v start keep outer n → ClearBelow f v second keep outer n =
    λ k n row h c. clear_handed (Seq spot e f) f v start second keep outer C k n row h
    (λ i j t s n low high a b. or_right _ _ (split_from i t (covers e v i) (λ m. live f v m t s n) j low high a b)) c in
    record {
      ends_right = λ k c.
          let handed = hands k (clear_less (Seq spot e f) v start keep outer (suc k) k (omega arith) c) in
          let m_right = m.ends_right k (left (suc k) c) in
          let n_right = n.ends_right k (right k (suc k) (omega arith) handed c) in
          let E = ends e (old (suc k)) (input (suc k)) (outer (suc k)) in
          let F = ends f (old (suc k)) (input (suc k)) (outer (suc k)) in
          let S : ℕ → Type 0 = λ j. covers f v j (suc k) ≡ true in (
            λ h. or_elim F (E && nullable f) h (λ l. from_map (hands_to handed (n_right.0 l) (omega arith))
                (λ i _ r. split_from i (suc k) (covers e v i) (λ m. covers f v m (suc k)) r.0 r.1
                (let le : r.0 ≤ k = r.2 in omega arith) r.3 r.4))
                (λ r. let p = and_parts E (nullable f) r in
                from_map (m_right.0 p.0)
                (λ i le a. split_from i (suc k) (covers e v i) (λ m. covers f v m (suc k)) (suc k) (omega arith)
                (omega arith) a (nullable_to_covers f v (suc k) p.1))),
            λ w. from_or {S = (Through C k S)} {T = (λ i. C i (suc k) × S (suc k))} w
                (λ i le a. split_last e v i k (suc k) (λ m. covers f v m (suc k)) le refl a)
                (λ l. or_left _ _ (n_right.1 (hands_from handed l (omega arith)))) (λ r. or_right _ _ (and_from _ _
                (m_right.1 (from_map r (λ i _ a. a.0)))
                (covers_to_nullable f v (suc k) r.reached.1))),
          );
      stays_right = λ k c.
          let handed = hands k (clear_less (Seq spot e f) v start keep outer (suc k) k (omega arith) c) in
          let ends_right = m.ends_right k (left (suc k) c) in
          let m_right = m.stays_right k (left (suc k) c) in
          let n_right = n.stays_right k (right k (suc k) (omega arith) handed c) in
          let E = ends e (old (suc k)) (input (suc k)) (outer (suc k)) in
          let A = stays e (old (suc k)) (input (suc k)) (outer (suc k)) in
          let B = stays f (old (suc k)) (input (suc k)) (outer (suc k)) in
          let L : ℕ → Type 0 = λ i. alive e v i (suc k) ≡ true in
          let S : ℕ → Type 0 = λ j. alive f v j (suc k) ≡ true in
          let M : ℕ → Type 0 = λ i. some_within i (suc k) (λ m. covers e v i m && alive f v m (suc k)) ≡ true in (
            λ h. or_elim A (B || (E && has_terminal f)) h (λ l. from_map (m_right.0 l) (λ i _. or_left _ _))
                (λ o. or_elim B (E && has_terminal f) o
                (λ l. from_map (hands_to handed (n_right.0 l) (omega arith))
                (λ i _ r. or_right _ _ (split_from i (suc k) (covers e v i) (λ m. alive f v m (suc k)) r.0 r.1
                (let le : r.0 ≤ k = r.2 in omega arith) r.3 r.4)))
                (λ r. let p = and_parts E (has_terminal f) r in
                from_map (ends_right.0 p.0)
                (λ i le a. or_right _ _ (split_from i (suc k) (covers e v i) (λ m. alive f v m (suc k)) (suc k)
                (omega arith) (omega arith) a (terminal_to_alive f v (suc k) good p.1))))),
            λ w. from_or {S = L} {T = M} w (λ i le a. or_elim _ _ a (λ x. inl x) (λ y. inr y))
                (λ l. or_left _ _ (m_right.1 l))
                (λ u. from_or {S = (Through C k S)} {T = (λ i. C i (suc k) × S (suc k))} u
                (λ i le a. split_last e v i k (suc k) (λ m. alive f v m (suc k)) le refl a)
                (λ l. or_right _ _ (or_left _ _
                (n_right.1 (hands_from handed l (omega arith))))) (λ r. or_right _ _ (or_right _ _
                (and_from _ _ (ends_right.1 (from_map r (λ i _ a. a.0)))
                (alive_to_terminal f v (suc k) r.reached.1))))),
          );
      started_right = λ mark k c.
          let handed = hands k c in
          let m_right = m.started_right mark k (left k c) in
          let n_right = n.started_right mark k (right k k (omega arith) handed c) in
          let L : ℕ → Type 0 = λ i. reaches e mark v i k ≡ true in
          let S : ℕ → Type 0 = λ j. reaches f mark v j k ≡ true in (
            λ h. or_elim (started e mark (old k) (input k) (outer k) (start k) (keep k))
                (started f mark (old k) (input k) (outer k) (second k) (keep k)) h
                (λ l. from_map (m_right.0 l) (λ i _. or_left _ _))
                (λ r. from_map (hands_to handed (n_right.0 r) (omega arith))
                (λ i _ r. or_right _ _ (split_from i k (covers e v i)
                (λ m. reaches f mark v m k) r.0 r.1 r.2 r.3 r.4))),
            λ w. from_or {S = L} {T = (Through C k S)} w (λ i le a. or_elim _ _ a (λ x. inl x)
                (λ y. let u = split_to i k (covers e v i) (λ m. reaches f mark v m k) y in
                inr (u.0, u.1, u.2, u.3, u.4)))
                (λ l. or_left _ _ (m_right.1 l))
                (λ r. or_right _ _ (n_right.1 (hands_from handed r (omega arith)))),
          );
    }
