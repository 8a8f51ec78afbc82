-- What the charts tell of splits, turns and aborts.
use Rattle.std.proofs.Common.{◌≡◌, ℕ, ◌+◌, ◌-◌, ◌<◌, ◌≤◌, Bool, ◌&&◌, List, length, inl, inr, refl, sym, ap, ◌∙◌, arith}
use Rattle.std.proofs.Common.{Some, true, false, ◌++◌, append_assoc}
use Rattle.std.specs.Prelude.{None, Option, IfSome, if◌then◌else◌}
use Rattle.std.proofs.lemmas.Bool.{cases_lt}
use Rattle.pbs_ast.specs.Trees.{Tree, Spot, Star}
use Rattle.pbs_derive.specs.Derivations.{covers, fires, trips, some_after}
use Rattle.pbs_covers.specs.Grids.{at, trips_at}
use Rattle.pbs_derive.proofs.Positions.{and_same, after_same, after_to}
use Rattle.pbs_explain.specs.declared.derivation.Item.{Item}
use Rattle.pbs_explain.specs.declared.step.Chart.{Chart}
use Rattle.pbs_explain.specs.inner.Charts.{Tells}
use Rattle.pbs_explain.specs.Firsts.{first_from, first_items, least_within, least_after}
use Rattle.pbs_explain.proofs.Steps.{trips_same}
use Rattle.pbs_explain.proofs.Walks.{after_between, turns_step, within_agrees, after_agrees}

pub some_if : (P : ℕ → Type 0) (b : Bool) (m : ℕ) → (b ≡ true → P m) → IfSome (if b then Some m else None) P
some_if P true m f = f refl
some_if P false m f = tt

-- where some number passes, the least one is in the range
pub least_low : (i j : ℕ) (test : ℕ → Bool) → some_after i j test ≡ true → i < least_after i j test
least_low i j test e =
    let w = after_to i j test e in
    let a : i < w.0 = w.1 in
    let b : w.0 ≤ j = w.2 in
    (after_between i j test (omega arith)).0

pub least_high : (i j : ℕ) (test : ℕ → Bool) → some_after i j test ≡ true → least_after i j test ≤ j
least_high i j test e =
    let w = after_to i j test e in
    let a : i < w.0 = w.1 in
    let b : w.0 ≤ j = w.2 in
    (after_between i j test (omega arith)).1

-- a turn that was appended is the first of those that were left
pub star_turn : (at : Spot) (e : Tree) (v : List ℕ) (i j m : ℕ) → i < j
    → m ≡ least_after i j (λ m. covers e v i m && covers (Star at e) v m j) → (out new : List Item)
    → new ≡ out ++ first_items e v i m
    → new ++ first_items (Star at e) v m j ≡ out ++ first_items (Star at e) v i j
star_turn at e v i j m lt here out new pushed =
    let rest = first_items (Star at e) v m j in
    let own = first_items e v i m in
    let unfolds : first_items (Star at e) v i j ≡ own ++ rest =
    turns_step (covers e v) (first_items e v) i j lt
    ∙ sym (ap (λ n. first_items e v i n ++ first_items (Star at e) v n j) here) in
    ap (λ xs. xs ++ rest) pushed ∙ (append_assoc out own rest ∙ ap (λ xs. out ++ xs) (sym unfolds))

module _ (v : List ℕ) (a : ℕ) where
  pub split_told : (l r : Tree) (b c : Chart) → Tells v a l b → Tells v a r c → (i j : ℕ) → i ≤ j → j ≤ length v
      → first_from i (j - i) (λ m. at (length v) b.covers i m && at (length v) c.covers m j)
      ≡ least_within i j (λ m. covers l v i m && covers r v m j)
  split_told l r b c p q i j le to =
      within_agrees i j (λ m. at (length v) b.covers i m && at (length v) c.covers m j)
      (λ m. covers l v i m && covers r v m j) le
      (λ m low high. and_same _ _ _ _ (p.covers i m low (omega arith)) (q.covers m j high to))

  pub turn_told : (l r : Tree) (b c : Chart) → Tells v a l b → Tells v a r c → (i j : ℕ) → i < j → j ≤ length v
      → first_from (i + 1) (j - (i + 1)) (λ m. at (length v) b.covers i m && at (length v) c.covers m j)
      ≡ least_after i j (λ m. covers l v i m && covers r v m j)
  turn_told l r b c p q i j lt to =
      after_agrees i j (λ m. at (length v) b.covers i m && at (length v) c.covers m j)
      (λ m. covers l v i m && covers r v m j) lt
      (λ m low high. and_same _ _ _ _ (p.covers i m (omega arith) (omega arith)) (q.covers m j high to))

  pub start_told : (l r : Tree) (b c : Chart) → Tells v a l b → Tells v a r c → (i : ℕ) → i ≤ length v
      → first_from i (length v - i) (λ m. at (length v) b.covers i m && at (length v) c.fires m (length v))
      ≡ least_within i (length v) (λ m. covers l v i m && fires r v m (length v) a)
  start_told l r b c p q i le =
      within_agrees i (length v) (λ m. at (length v) b.covers i m && at (length v) c.fires m (length v))
      (λ m. covers l v i m && fires r v m (length v) a) le
      (λ m low high. and_same _ _ _ _ (p.covers i m low high) (q.fires m (length v) high (omega arith)))

  abbrev if_some : Bool → ℕ → Option ℕ
  if_some b m = if b then Some m else None

  pub abort_told : (e x : Tree) (b c : Chart) → Tells v a e b → Tells v a x c → (i j : ℕ) → i ≤ j → j ≤ length v
      → (if some_after i j (trips_at (length v) c.covers b.alive i)
      then Some (least_after i j (trips_at (length v) c.covers b.alive i)) else None)
      ≡ (if some_after i j (trips e x v i) then Some (least_after i j (trips e x v i)) else None)
  abort_told e x b c p q i j le to =
      let found : ℕ → Bool = trips_at (length v) c.covers b.alive i in
      let meant : ℕ → Bool = trips e x v i in
      let same : (m : ℕ) → i < m → m ≤ j → found m ≡ meant m =
      λ m low high. trips_same v a e x b c p q i m low (omega arith) in
      let least : least_after i j found ≡ least_after i j meant = elim (cases_lt i j) [
        | inl lt ↦ after_agrees i j found meant lt same
        | inr ge ↦
            let none : j - (i + 1) ≡ 0 = omega arith in
            ap (λ n. first_from (i + 1) n found) none ∙ sym (ap (λ n. first_from (i + 1) n meant) none)
      ] in
      ap (λ b. if_some b (least_after i j found)) (after_same i j found meant same)
      ∙ ap (if_some (some_after i j meant)) least
