-- Each node's step gives the chart of the node.
use Rattle.std.proofs.Common.{◌≡◌, ℕ, zero, suc, ◌+◌, ◌-◌, ◌<◌, ◌≤◌, Bool, not, ◌&&◌, ◌||◌, List, [], ◌∷◌, length, map}
use Rattle.std.proofs.Common.{refl, sym, ap, ◌∙◌, arith, nat_eq, nat_le, slice_index}
use Rattle.bool_terms.specs.Terms.{Term, holds}
use Rattle.pbs_ast.specs.Trees.{Tree, Spot}
use Rattle.pbs_ast.specs.Trees as tree
use Rattle.pbs_derive.specs.Derivations.{covers, alive, fires, all_hold, repeats, some_within, some_after, first_after}
use Rattle.pbs_derive.specs.Derivations.{trips}
use Rattle.pbs_covers.specs.Grids.{entry, at, joint, throughout, trips_at, aborted}
use Rattle.std.proofs.lemmas.Bool.{or_left, eqb-true, eq-eqb}
use Rattle.pbs_derive.proofs.Positions.{same_test, and_where, and_same, below_same, within_same, after_same, first_same}
use Rattle.pbs_derive.proofs.Positions.{within_next}
use Rattle.pbs_explain.specs.declared.step.Chart.{Chart}
use Rattle.pbs_explain.specs.declared.step.Step.{Step}
use Rattle.pbs_explain.specs.declared.step.Step.TheVariants as step
use Rattle.pbs_explain.specs.inner.Charts.{Tells, IsChart, IsStepOf}

pub entry-map : (f : ℕ → Bool) (v : List ℕ) (k : ℕ) → k < length v → entry (map f v) k ≡ f (slice_index v k)
entry-map f [] k h = absurd (omega arith)
entry-map f (x ∷ v) zero h = refl
entry-map f (x ∷ v) (suc k) h = entry-map f v k (omega arith)

flip : (i j : ℕ) → nat_eq i j ≡ nat_eq j i
flip i j = same_test _ _ (λ e. eq-eqb j i (sym (eqb-true i j e))) (λ e. eq-eqb i j (sym (eqb-true j i e)))

module _ (v : List ℕ) (a : ℕ) where
  -- the grid tells of each stretch of the run
  abbrev pub Shows : List (List Bool) → (ℕ → ℕ → Bool) → Type 0
  Shows grid f = (i j : ℕ) → i ≤ j → j ≤ length v → at (length v) grid i j ≡ f i j

  pub joint_same : (left right : List (List Bool)) (f g : ℕ → ℕ → Bool) → Shows left f → Shows right g → (i j : ℕ)
      → i ≤ j → j ≤ length v → joint (length v) left right i i j ≡ some_within i j (λ m. f i m && g m j)
  joint_same left right f g p q i j order to =
      within_same i j (λ m. at (length v) left i m && at (length v) right m j) (λ m. f i m && g m j)
      (λ m above below. and_same _ (f i m) _ (g m j) (p i m above (omega arith)) (q m j below to))

  pub throughout_same : (b : Term) (truths : List Bool) → truths ≡ map (holds b) v → (i j : ℕ) → j ≤ length v
      → throughout truths i j ≡ all_hold b v i j
  throughout_same b truths e i j to =
      ap not (below_same j (λ m. nat_le i m && not (entry truths m))
      (λ m. nat_le i m && not (holds b (slice_index v m)))
      (λ m below. ap (λ x. nat_le i m && not x) (ap (λ x. entry x m) e ∙ entry-map (holds b) v m (omega arith))))

  pub trips_same : (e x : Tree) (b c : Chart) → Tells v a e b → Tells v a x c → (i m : ℕ) → i < m → m ≤ length v
      → trips_at (length v) c.covers b.alive i m ≡ trips e x v i m
  trips_same e x b c p q i m above below =
      and_same _ (covers x v i m) _ (alive e v i (m - 1)) (q.covers i m (omega arith) below)
      (p.alive i (m - 1) (omega arith) (omega arith))

  aborted_same : (e x : Tree) (b c : Chart) → Tells v a e b → Tells v a x c → (body then : List (List Bool))
      (f g : ℕ → ℕ → Bool) → Shows body f → Shows then g → (i j : ℕ) → i ≤ j → j ≤ length v
      → aborted (length v) c.covers b.alive body then i j ≡
      (not (some_after i j (trips e x v i)) && f i j || first_after i j (trips e x v i) (λ m. g m j))
  aborted_same e x b c p q body then f g r s i j order to =
      let found = trips_at (length v) c.covers b.alive i in
      let meant : ℕ → Bool = trips e x v i in
      let same : (m : ℕ) → i < m → m ≤ j → found m ≡ meant m = λ m above below. trips_same e x b c p q i m above
      (omega arith) in
      rw (
        after_same i j found meant same,
        first_same i j found meant (λ m. at (length v) then m j) (λ m. g m j) same (λ m above below. s m j below to),
        r i j order to,
      )

  star_covers : (e : Tree) (b t : Chart) (s : Step) → Tells v a e b
      → ((i j : ℕ) → i ≤ j → j ≤ length v → at (length v) t.covers i j ≡ (nat_eq i j
      || joint (length v) b.covers t.covers (i + 1) i j)) → (fuel i j : ℕ)
      → j - i ≤ fuel → i ≤ j → j ≤ length v → at (length v) t.covers i j ≡ repeats (covers e v) fuel i j
  star_covers e b t s p h zero i j enough order to =
      h i j order to ∙ (or_left _ _ (eq-eqb i j (omega arith)) ∙ sym (eq-eqb i j (omega arith)))
  star_covers e b t s p h (suc fuel) i j enough order to =
      h i j order to ∙
      ap (λ x. nat_eq i j || x)
      (within_next i j (λ m. at (length v) b.covers i m && at (length v) t.covers m j) ∙
      after_same i j (λ m. at (length v) b.covers i m && at (length v) t.covers m j)
      (λ m. covers e v i m && repeats (covers e v) fuel m j)
      (λ m above below. and_same _ (covers e v i m) _ (repeats (covers e v) fuel m j)
      (p.covers i m (omega arith) (omega arith)) (star_covers e b t s p h fuel m j (omega arith) below to)))

  pub step_tells : (e : Tree) (s : Step) (t : Chart) → IsStepOf v a e s → IsChart s (length v) t → Tells v a e t
  step_tells (tree.Empty spot) step.Empty t d h = record {
    covers = h.covered.entries;
    alive = h.lives.entries;
    fires = h.fired.entries;
  }
  step_tells (tree.Action spot b) (step.Action asked) t d h = record {
    covers = h.covered.entries;
    alive = h.lives.entries;
    fires = λ i j order to. h.fired.entries i j order to ∙ and_same asked (nat_eq a b) _ _ d (flip i j);
  }
  step_tells (tree.Terminal spot p b) (step.Terminal truths) t d h = record {
    covers = λ i j order to. h.covered.entries i j order to ∙
        and_where (nat_eq j (i + 1)) (entry truths i) (holds b (slice_index v i))
        (λ next. ap (λ x. entry x i) d ∙ entry-map (holds b) v i (omega (arith, eqb-true j (i + 1) next)));
    alive = λ i j order to. h.lives.entries i j order to ∙ flip i j;
    fires = h.fired.entries;
  }
  step_tells (tree.Seq spot e f) (step.Seq b c) t d h =
      let b' = b.now in
      let c' = c.now in
      let p : Tells v a e b' = d.0 in
      let q : Tells v a f c' = d.1 in
      record {
        covers = λ i j order to. h.covered.entries i j order to ∙ joint_same b'.covers c'.covers (covers e v)
            (covers f v) p.covers q.covers i j order to;
        alive = λ i j order to. h.lives.entries i j order to ∙ rw (
          p.alive i j order to,
          joint_same b'.covers c'.alive (covers e v) (alive f v) p.covers q.alive i j order to,
        );
        fires = λ i j order to. h.fired.entries i j order to ∙ rw (
          p.fires i j order to,
          joint_same b'.covers c'.fires (covers e v) (λ i j. fires f v i j a) p.covers q.fires i j order to,
        );
      }
  step_tells (tree.Choice spot e f) (step.Choice b c) t d h =
      let p : Tells v a e b.now = d.0 in
      let q : Tells v a f c.now = d.1 in
      record {
        covers = λ i j order to. h.covered.entries i j order to ∙ rw (p.covers i j order to, q.covers i j order to);
        alive = λ i j order to. h.lives.entries i j order to ∙ rw (p.alive i j order to, q.alive i j order to);
        fires = λ i j order to. h.fired.entries i j order to ∙ rw (p.fires i j order to, q.fires i j order to);
      }
  step_tells (tree.Star spot e) (step.Star b) t d h =
      let b' = b.now in
      let p : Tells v a e b' = d in
      let own : (i j : ℕ) → i ≤ j → j ≤ length v → at (length v) t.covers i j ≡ repeats (covers e v) (j - i) i j =
      λ i j order to. star_covers e b' t (step.Star b) p h.covered.entries (j - i) i j (omega arith) order to in
      record {
        covers = own;
        alive = λ i j order to. h.lives.entries i j order to ∙
            joint_same t.covers b'.alive (λ i m. repeats (covers e v) (m - i) i m) (alive e v) own p.alive i j order to;
        fires = λ i j order to. h.fired.entries i j order to ∙
            joint_same t.covers b'.fires (λ i m. repeats (covers e v) (m - i) i m) (λ i j. fires e v i j a) own p.fires
            i j order to;
      }
  step_tells (tree.Hold spot b e) (step.Hold truths c) t d h =
      let p : Tells v a e c.now = d.1 in
      record {
        covers = λ i j order to. h.covered.entries i j order to
            ∙ rw (p.covers i j order to, throughout_same b truths d.0 i j to);
        alive = λ i j order to. h.lives.entries i j order to
            ∙ rw (p.alive i j order to, throughout_same b truths d.0 i j to);
        fires = λ i j order to. h.fired.entries i j order to
            ∙ rw (p.fires i j order to, throughout_same b truths d.0 i j to);
      }
  step_tells (tree.Scope spot n e x k) (step.Scope b c d') t d h =
      let b' = b.now in
      let c' = c.now in
      let k' = d'.now in
      let p : Tells v a e b' = d.0 in
      let q : Tells v a x c' = d.1 in
      let r : Tells v a k k' = d.2 in
      record {
        covers = λ i j order to. h.covered.entries i j order to ∙ aborted_same e x b' c' p q b'.covers k'.covers
            (covers e v) (covers k v) p.covers r.covers i j order to;
        alive = λ i j order to. h.lives.entries i j order to ∙ aborted_same e x b' c' p q b'.alive k'.alive (alive e v)
            (alive k v) p.alive r.alive i j order to;
        fires = λ i j order to. h.fired.entries i j order to ∙ aborted_same e x b' c' p q b'.fires k'.fires
            (λ i j. fires e v i j a) (λ i j. fires k v i j a) p.fires r.fires i j order to;
      }
  step_tells _ _ t d h = absurd d
