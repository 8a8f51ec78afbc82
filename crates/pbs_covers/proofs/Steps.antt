-- Each node's step gives the tables of the tree.
use Rattle.std.proofs.Common.{◌≡◌, ℕ, zero, suc, ◌+◌, ◌-◌, ◌<◌, ◌≤◌, Bool, not, ◌&&◌, ◌||◌, List, [], ◌∷◌, length, map}
use Rattle.std.proofs.Common.{refl, sym, ap, ◌∙◌, arith, nat_eq, nat_le, slice_index}
use Rattle.std.specs.Prelude.{Result, Ok, Err, IfOk}
use Rattle.std.proofs.lemmas.Result.{IfOk-weaker, IfOk-at_ok}
use Rattle.pbs_base.specs.declared.fail.Memory.{Memory}
use Rattle.bool_terms.specs.Terms.{Term, holds}
use Rattle.pbs_ast.specs.Trees.{Tree, Spot}
use Rattle.pbs_ast.specs.Trees as tree
use Rattle.pbs_derive.specs.Derivations.{covers, alive, all_hold, repeats, some_within, some_after, first_after}
use Rattle.pbs_covers.specs.Grids.{entry, at, joint, throughout, trips_at, aborted}
use Rattle.pbs_covers.specs.inner.Tables.{result_map, result_map2}
use Rattle.pbs_covers.specs.inner.Tables.{IsTables}
use Rattle.pbs_covers.specs.inner.Tables.{IsStep, IsStepOk, terminal_step_of, seq_step_of, choice_step_of, star_step_of}
use Rattle.pbs_covers.specs.inner.Tables.{hold_step_of, scope_step_of}
use Rattle.pbs_covers.specs.declared.step.Tables.{Tables}
use Rattle.pbs_covers.specs.declared.step.Step.{Step}
use Rattle.pbs_covers.specs.declared.step.Step.TheVariants as step
use Rattle.std.proofs.lemmas.Bool.{or_left, eqb-true, eq-eqb}
use Rattle.pbs_derive.proofs.Positions.{and_where, and_same, below_same, within_same, after_same, first_same}
use Rattle.pbs_derive.proofs.Positions.{within_next}

entry-map : (f : ℕ → Bool) (v : List ℕ) (k : ℕ) → k < length v → entry (map f v) k ≡ f (slice_index v k)
entry-map f [] k h = absurd (omega arith)
entry-map f (x ∷ v) zero h = refl
entry-map f (x ∷ v) (suc k) h = entry-map f v k (omega arith)

module _ (spot : Spot) (v : List ℕ) where
  pub empty_tables : (t : Tables) → IsStep step.Empty (length v) t → IsTables (tree.Empty spot) v t
  empty_tables t h = record { covers = h.covered.entries; alive = h.lives.entries }

  pub action_tables : (a : ℕ) (t : Tables) → IsStep step.Empty (length v) t → IsTables (tree.Action spot a) v t
  action_tables a t h = record { covers = h.covered.entries; alive = h.lives.entries }

  pub terminal_tables : (p : ℕ) (b : Term) (t : Tables) (truths : List Bool) → truths ≡ map (holds b) v
      → IsStep (step.Terminal truths) (length v) t → IsTables (tree.Terminal spot p b) v t
  terminal_tables p b t truths e h = record {
    covers = λ i j order to. h.covered.entries i j order to ∙
        and_where (nat_eq j (i + 1)) (entry truths i) (holds b (slice_index v i))
        (λ next. ap (λ x. entry x i) e ∙ entry-map (holds b) v i (omega (arith, eqb-true j (i + 1) next)));
    alive = h.lives.entries;
  }

  joint-same : (left right : List (List Bool)) (f g : ℕ → ℕ → Bool)
      → ((i j : ℕ) → i ≤ j → j ≤ length v → at (length v) left i j ≡ f i j)
      → ((i j : ℕ) → i ≤ j → j ≤ length v → at (length v) right i j ≡ g i j) → (i j : ℕ) → i ≤ j → j ≤ length v
      → joint (length v) left right i i j ≡ some_within i j (λ m. f i m && g m j)
  joint-same left right f g p q i j order to =
      within_same i j (λ m. at (length v) left i m && at (length v) right m j) (λ m. f i m && g m j)
      (λ m above below. and_same _ (f i m) _ (g m j) (p i m above (omega arith)) (q m j below to))

  pub seq_tables : (e f : Tree) (a b t : Tables) → IsTables e v a → IsTables f v b
      → IsStep (step.Seq a b) (length v) t → IsTables (tree.Seq spot e f) v t
  seq_tables e f a b t p q h = record {
    covers = λ i j order to. h.covered.entries i j order to ∙ joint-same a.covers b.covers (covers e v)
        (covers f v) p.covers q.covers i j order to;
    alive = λ i j order to. h.lives.entries i j order to ∙
        rw (p.alive i j order to, joint-same a.covers b.alive (covers e v) (alive f v) p.covers q.alive i j order to);
  }

  pub choice_tables : (e f : Tree) (a b t : Tables) → IsTables e v a → IsTables f v b
      → IsStep (step.Choice a b) (length v) t → IsTables (tree.Choice spot e f) v t
  choice_tables e f a b t p q h = record {
    covers = λ i j order to. h.covered.entries i j order to ∙ rw (p.covers i j order to, q.covers i j order to);
    alive = λ i j order to. h.lives.entries i j order to ∙ rw (p.alive i j order to, q.alive i j order to);
  }

  throughout-same : (b : Term) (truths : List Bool) → truths ≡ map (holds b) v → (i j : ℕ) → j ≤ length v
      → throughout truths i j ≡ all_hold b v i j
  throughout-same b truths e i j to =
      ap not (below_same j (λ m. nat_le i m && not (entry truths m))
      (λ m. nat_le i m && not (holds b (slice_index v m)))
      (λ m below. ap (λ x. nat_le i m && not x) (ap (λ x. entry x m) e ∙ entry-map (holds b) v m (omega arith))))

  pub hold_tables : (b : Term) (e : Tree) (truths : List Bool) (a t : Tables) → truths ≡ map (holds b) v
      → IsTables e v a → IsStep (step.Hold truths a) (length v) t → IsTables (tree.Hold spot b e) v t
  hold_tables b e truths a t r p h = record {
    covers = λ i j order to. h.covered.entries i j order to
        ∙ rw (p.covers i j order to, throughout-same b truths r i j to);
    alive = λ i j order to. h.lives.entries i j order to ∙ rw (p.alive i j order to, throughout-same b truths r i j to);
  }

  star_covers : (e : Tree) (a t : Tables) → IsTables e v a → IsStep (step.Star a) (length v) t → (fuel i j : ℕ)
      → j - i ≤ fuel → i ≤ j → j ≤ length v → at (length v) t.covers i j ≡ repeats (covers e v) fuel i j
  star_covers e a t p h zero i j enough order to =
      h.covered.entries i j order to
      ∙ (or_left _ _ (eq-eqb i j (omega arith)) ∙ sym (eq-eqb i j (omega arith)))
  star_covers e a t p h (suc fuel) i j enough order to =
      h.covered.entries i j order to ∙
      ap (λ x. nat_eq i j || x)
      (within_next i j (λ m. at (length v) a.covers i m && at (length v) t.covers m j) ∙
      after_same i j (λ m. at (length v) a.covers i m && at (length v) t.covers m j)
      (λ m. covers e v i m && repeats (covers e v) fuel m j)
      (λ m above below. and_same _ (covers e v i m) _ (repeats (covers e v) fuel m j)
      (p.covers i m (omega arith) (omega arith)) (star_covers e a t p h fuel m j (omega arith) below to)))

  pub star_tables : (e : Tree) (a t : Tables) → IsTables e v a → IsStep (step.Star a) (length v) t
      → IsTables (tree.Star spot e) v t
  star_tables e a t p h =
      let own : (i j : ℕ) → i ≤ j → j ≤ length v → at (length v) t.covers i j ≡ repeats (covers e v) (j - i) i j =
      λ i j order to. star_covers e a t p h (j - i) i j (omega arith) order to in
      record {
        covers = own;
        alive = λ i j order to. h.lives.entries i j order to ∙
            joint-same t.covers a.alive (λ i m. repeats (covers e v) (m - i) i m) (alive e v) own p.alive i j order to;
      }

  trips-same : (e x : Tree) (a b : Tables) → IsTables e v a → IsTables x v b → (i m : ℕ) → i < m → m ≤ length v
      → trips_at (length v) b.covers a.alive i m ≡ (covers x v i m && alive e v i (m - 1))
  trips-same e x a b p q i m above below =
      and_same _ (covers x v i m) _ (alive e v i (m - 1)) (q.covers i m (omega arith) below)
      (p.alive i (m - 1) (omega arith) (omega arith))

  aborted-same : (e x : Tree) (a b : Tables) → IsTables e v a → IsTables x v b → (body then : List (List Bool))
      (f g : ℕ → ℕ → Bool) → ((i j : ℕ) → i ≤ j → j ≤ length v → at (length v) body i j ≡ f i j)
      → ((i j : ℕ) → i ≤ j → j ≤ length v → at (length v) then i j ≡ g i j) → (i j : ℕ) → i ≤ j → j ≤ length v
      → aborted (length v) b.covers a.alive body then i j ≡
      (not (some_after i j (λ m. covers x v i m && alive e v i (m - 1))) && f i j || first_after i j
      (λ m. covers x v i m && alive e v i (m - 1)) (λ m. g m j))
  aborted-same e x a b p q body then f g r s i j order to =
      let found = trips_at (length v) b.covers a.alive i in
      let meant : ℕ → Bool = λ m. covers x v i m && alive e v i (m - 1) in
      let same : (m : ℕ) → i < m → m ≤ j → found m ≡ meant m = λ m above below. trips-same e x a b p q i m above
      (omega arith) in
      rw (
        after_same i j found meant same,
        first_same i j found meant (λ m. at (length v) then m j) (λ m. g m j) same (λ m above below. s m j below to),
        r i j order to,
      )

  pub scope_tables : (n : ℕ) (e x h : Tree) (a b d t : Tables) → IsTables e v a → IsTables x v b → IsTables h v d
      → IsStep (step.Scope a b d) (length v) t → IsTables (tree.Scope spot n e x h) v t
  scope_tables n e x k a b d t p q r h = record {
    covers = λ i j order to. h.covered.entries i j order to ∙ aborted-same e x a b p q a.covers d.covers (covers e v)
        (covers k v) p.covers r.covers i j order to;
    alive = λ i j order to. h.lives.entries i j order to ∙ aborted-same e x a b p q a.alive d.alive (alive e v)
        (alive k v) p.alive r.alive i j order to;
  }

  abbrev Made : Tree → Result Tables Memory → Type 0
  Made e r = IfOk r (IsTables e v)

  abbrev Truths : Term → Result (List Bool) Memory → Type 0
  Truths b r = IfOk r (λ truths. truths ≡ map (holds b) v)

  abbrev Finished : Result Step Memory → Result Tables Memory → Type 0
  Finished s o = IfOk o (IsStepOk s (length v))

  -- a node whose step was made of what the results hold, or of no failure
  made0 : (e : Tree) (x : Step) (o : Result Tables Memory) → ((t : Tables) → IsStep x (length v) t → IsTables e v t)
      → Finished (Ok x) o → Made e o
  made0 e x o f = IfOk-weaker o (IsStep x (length v)) (IsTables e v) f

  made1 : {A : Type 0} (P : A → Type 0) (e : Tree) (step : A → Step) (r : Result A Memory) (o : Result Tables Memory)
      → ((a : A) (t : Tables) → P a → IsStep (step a) (length v) t → IsTables e v t)
      → IfOk r P → Finished (result_map step r) o → Made e o
  made1 {A = A} P e step (Ok a) o f p h =
      made0 e (step a) o (λ t. f a t (IfOk-at_ok {T = A} {E = Memory} P {r = Ok a} {x = a} refl p)) h
  made1 P e step (Err x) o f p h = IfOk-weaker o (λ t. ⊥) (IsTables e v) (λ t w. absurd w) h

  made2 : {A B : Type 0} (P : A → Type 0) (Q : B → Type 0) (e : Tree) (step : A → B → Step) (r : Result A Memory)
      (s : Result B Memory) (o : Result Tables Memory)
      → ((a : A) (b : B) (t : Tables) → P a → Q b → IsStep (step a b) (length v) t → IsTables e v t)
      → IfOk r P → IfOk s Q → Finished (result_map2 step r s) o → Made e o
  made2 {A = A} P Q e step (Ok a) s o f p q h =
      made1 Q e (step a) s o (λ b t. f a b t (IfOk-at_ok {T = A} {E = Memory} P {r = Ok a} {x = a} refl p)) q h
  made2 P Q e step (Err x) s o f p q h = IfOk-weaker o (λ t. ⊥) (IsTables e v) (λ t w. absurd w) h

  pub empty_finished : (o : Result Tables Memory) → Finished (Ok step.Empty) o → Made (tree.Empty spot) o
  empty_finished o = made0 (tree.Empty spot) step.Empty o empty_tables

  pub action_finished : (a : ℕ) (o : Result Tables Memory) → Finished (Ok step.Empty) o → Made (tree.Action spot a) o
  action_finished a o = made0 (tree.Action spot a) step.Empty o (action_tables a)

  pub terminal_finished : (p : ℕ) (b : Term) (r : Result (List Bool) Memory) (o : Result Tables Memory) → Truths b r
      → Finished (terminal_step_of r) o → Made (tree.Terminal spot p b) o
  terminal_finished p b r o =
      made1 (λ truths. truths ≡ map (holds b) v) (tree.Terminal spot p b) step.Terminal r o
      (λ truths t. terminal_tables p b t truths)

  pub seq_finished : (e f : Tree) (r s o : Result Tables Memory) → Made e r → Made f s
      → Finished (seq_step_of r s) o → Made (tree.Seq spot e f) o
  seq_finished e f r s o = made2 (IsTables e v) (IsTables f v) (tree.Seq spot e f) step.Seq r s o (seq_tables e f)

  pub choice_finished : (e f : Tree) (r s o : Result Tables Memory) → Made e r → Made f s
      → Finished (choice_step_of r s) o → Made (tree.Choice spot e f) o
  choice_finished e f r s o = made2 (IsTables e v) (IsTables f v) (tree.Choice spot e f) step.Choice r s o
      (choice_tables e f)

  pub star_finished : (e : Tree) (r o : Result Tables Memory) → Made e r → Finished (star_step_of r) o
      → Made (tree.Star spot e) o
  star_finished e r o = made1 (IsTables e v) (tree.Star spot e) step.Star r o (star_tables e)

  pub hold_finished : (b : Term) (e : Tree) (g : Result (List Bool) Memory) (r o : Result Tables Memory) → Truths b g
      → Made e r → Finished (hold_step_of g r) o → Made (tree.Hold spot b e) o
  hold_finished b e g r o =
      made2 (λ truths. truths ≡ map (holds b) v) (IsTables e v) (tree.Hold spot b e) step.Hold g r o (hold_tables b e)

  pub scope_finished : (n : ℕ) (e x k : Tree) (r s d o : Result Tables Memory) → Made e r → Made x s → Made k d
      → Finished (scope_step_of r s d) o → Made (tree.Scope spot n e x k) o
  scope_finished n e x k (Ok a) s d o p q u h =
      made2 (IsTables x v) (IsTables k v) (tree.Scope spot n e x k) (step.Scope a) s d o
      (λ b c t. scope_tables n e x k a b c t
      (IfOk-at_ok {T = Tables} {E = Memory} (IsTables e v) {r = Ok a} {x = a} refl p)) q u h
  scope_finished n e x k (Err y) s d o p q u h = IfOk-weaker o (λ t. ⊥) (IsTables (tree.Scope spot n e x k) v)
      (λ t w. absurd w) h
