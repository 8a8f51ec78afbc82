-- The controller over runs with resets.
use Rattle.std.proofs.Common.{◌≡◌, ℕ, zero, suc, ◌+◌, ◌<◌, ◌≤◌, Bool, true, false, not, ◌&&◌, List, [], ◌∷◌, ◌++◌}
use Rattle.std.proofs.Common.{length, Option, Some, None, slice_index, refl, sym, ap, ◌∙◌, subst, arith, length-append}
use Rattle.std.specs.Prelude.{slice_get}
use Rattle.std.proofs.Math.Path.{fun_ext}
use Rattle.std.proofs.Math.Seq.{get_or-append_seam}
use Rattle.std.proofs.lemmas.Option.{slice_get-get_or}
use Rattle.std.proofs.lemmas.List.{get_or_append_left}
use Rattle.std.proofs.lemmas.Bool.{eq-eqb, or_left, or_right}
use Rattle.bool_terms.specs.Terms.{holds}
use Rattle.pbs_base.specs.declared.entry.Entry.{Entry}
use Rattle.pbs_base.specs.declared.entry.Entry.TheVariants.{Vector, Reset}
use Rattle.pbs_base.specs.Entries.{and_then, since}
use Rattle.pbs_ast.specs.Trees.{Tree, Empty, Terminal, Action, Seq, Choice, Star, Hold, Scope, has_place, is_place}
use Rattle.pbs_ast.specs.Trees.{is_action, nullable}
use Rattle.pbs_derive.proofs.Shapes.{WellFormed, PlacesOnce}
use Rattle.pbs_ast.specs.Sound.{place_count}
use Rattle.pbs_derive.specs.Derivations.{SameTo, stands, fires, NoOverlapBelow}
use Rattle.pbs_derive.proofs.Reached.{reaches, stands_reached, fires_reached}
use Rattle.pbs_derive.proofs.Prefix.{stands_same, no_overlap_same}
use Rattle.pbs_machine.specs.Rows.{ends, stays, started, right_start, body_start, main_starts}
use Rattle.pbs_machine.specs.Runs.{IsControllerRun}
use Rattle.pbs_machine.proofs.Main.{main_reaches, no_overlap_less}

-- Registers that agree on the places of the tree give the same row.
abbrev SameOn : Tree → (ℕ → Bool) → (ℕ → Bool) → Type 0
SameOn e r s = (p : ℕ) → has_place p e ≡ true → r p ≡ s p

same_ends : (e : Tree) (r s : ℕ → Bool) (x : ℕ) (outer : Bool) → SameOn e r s → ends e r x outer ≡ ends e s x outer
same_ends (Empty spot) r s x outer h = refl
same_ends (Action spot a) r s x outer h = refl
same_ends (Terminal spot p t) r s x outer h = ap (λ b. b && (outer && holds t x)) (h p (eq-eqb p p refl))
same_ends (Seq spot e f) r s x outer h = rw
    (same_ends f r s x outer (λ p g. h p (or_right _ _ g)), same_ends e r s x outer (λ p g. h p (or_left _ _ g)))
same_ends (Choice spot e f) r s x outer h = rw
    (same_ends e r s x outer (λ p g. h p (or_left _ _ g)), same_ends f r s x outer (λ p g. h p (or_right _ _ g)))
same_ends (Star spot e) r s x outer h = same_ends e r s x outer h
same_ends (Hold spot t e) r s x outer h = same_ends e r s x (outer && holds t x) h
same_ends (Scope spot i e c a) r s x outer h =
    rw (
      same_ends e r s x outer (λ p g. h p (or_left _ _ (or_left _ _ g))),
      same_ends c r s x outer (λ p g. h p (or_left _ _ (or_right _ _ g))),
      same_ends a r s x outer (λ p g. h p (or_right _ _ g)),
    )

same_stays : (e : Tree) (r s : ℕ → Bool) (x : ℕ) (outer : Bool) → SameOn e r s → stays e r x outer ≡ stays e s x outer
same_stays (Empty spot) r s x outer h = refl
same_stays (Action spot a) r s x outer h = refl
same_stays (Terminal spot p t) r s x outer h = refl
same_stays (Seq spot e f) r s x outer h =
    rw (
      same_stays e r s x outer (λ p g. h p (or_left _ _ g)),
      same_stays f r s x outer (λ p g. h p (or_right _ _ g)),
      same_ends e r s x outer (λ p g. h p (or_left _ _ g)),
    )
same_stays (Choice spot e f) r s x outer h = rw
    (same_stays e r s x outer (λ p g. h p (or_left _ _ g)), same_stays f r s x outer (λ p g. h p (or_right _ _ g)))
same_stays (Star spot e) r s x outer h = rw (same_stays e r s x outer h, same_ends e r s x outer h)
same_stays (Hold spot t e) r s x outer h = same_stays e r s x (outer && holds t x) h
same_stays (Scope spot i e c a) r s x outer h =
    rw (
      same_stays e r s x outer (λ p g. h p (or_left _ _ (or_left _ _ g))),
      same_ends c r s x outer (λ p g. h p (or_left _ _ (or_right _ _ g))),
      same_stays a r s x outer (λ p g. h p (or_right _ _ g)),
    )

pub same_started : (e : Tree) (mark : Tree → Bool) (r s : ℕ → Bool) (x : ℕ) (outer start keep : Bool) → SameOn e r s
    → started e mark r x outer start keep ≡ started e mark s x outer start keep
same_started (Empty spot) mark r s x outer start keep h = refl
same_started (Action spot a) mark r s x outer start keep h = refl
same_started (Terminal spot p t) mark r s x outer start keep h = refl
same_started (Seq spot e f) mark r s x outer start keep h =
    rw (
      same_ends e r s x outer (λ p g. h p (or_left _ _ g)),
      same_started e mark r s x outer start keep (λ p g. h p (or_left _ _ g)),
      same_started f mark r s x outer (right_start start keep (ends e s x outer) (nullable e)) keep
          (λ p g. h p (or_right _ _ g)),
    )
same_started (Choice spot e f) mark r s x outer start keep h =
    rw (
      same_started e mark r s x outer start keep (λ p g. h p (or_left _ _ g)),
      same_started f mark r s x outer start
          keep (λ p g. h p (or_right _ _ g)),
    )
same_started (Star spot e) mark r s x outer start keep h =
    rw (same_ends e r s x outer h) (same_started e mark r s x outer (body_start start keep (ends e s x outer)) keep h)
same_started (Hold spot t e) mark r s x outer start keep h = same_started e mark r s x (outer && holds t x) start keep h
same_started (Scope spot i e c a) mark r s x outer start keep h =
    rw (
      same_ends c r s x outer (λ p g. h p (or_left _ _ (or_right _ _ g))),
      same_stays e r s x outer (λ p g. h p (or_left _ _ (or_left _ _ g))),
      same_started e mark r s x outer start (keep && not (ends c s x outer)) (λ p g. h p (or_left _ _ (or_left _ _ g))),
      same_started c mark r s x outer start ((keep && not (ends c s x outer)) && stays e s x outer)
          (λ p g. h p (or_left _ _ (or_right _ _ g))),
      same_started a mark r s x outer (ends c s x outer && keep) keep (λ p g. h p (or_right _ _ g)),
    )

-- in a reset row nothing depends on earlier rows: it is position 0
pub reset_row : (main : Tree) (mark : Tree → Bool) (v : List ℕ) (old : ℕ → Bool) (x : ℕ) → WellFormed main
    → PlacesOnce main
    → started main mark old x false true true ≡ reaches main mark v 0 0
reset_row main mark v old x good once = main_reaches main mark v old x 0 good once (λ t lt. absurd (omega arith))

nothing : ℕ → Bool
nothing p = false

-- a row with a vector is the next position
pub vector_row : (main : Tree) (mark : Tree → Bool) (v : List ℕ) (k : ℕ) → WellFormed main → PlacesOnce main
    → NoOverlapBelow main v (suc k)
    → started main mark (stands main v 0 k) (slice_index v k) true false true ≡ reaches main mark v 0 (suc k)
vector_row main mark v k good once none =
    ap (λ (old : ℕ → Bool). started main mark old (slice_index v k) true false true)
    (fun_ext (λ q. stands_reached main v 0 k q
    ∙ sym (main_reaches main (is_place q) v nothing 0 k good once (no_overlap_less main v k none))))
    ∙ main_reaches main mark v nothing 0 (suc k) good once none

-- one vector more changes nothing at the positions before it
front_same : (u : List ℕ) (x : ℕ) → SameTo (length u) (u ++ x ∷ []) u
front_same u x m lt = get_or_append_left u (x ∷ []) 0 m lt

-- the premise at a longer list gives that at its front
no_overlap_front : (main : Tree) (u : List ℕ) (x : ℕ) → NoOverlapBelow main (u ++ x ∷ []) (length (u ++ x ∷ []))
    → NoOverlapBelow main u (length u)
no_overlap_front main u x none =
    let more : length (u ++ x ∷ []) ≡ length u + 1 = length-append u (x ∷ []) in
    no_overlap_same main (u ++ x ∷ []) u (length u) (length u) (front_same u x) (omega arith)
    (λ t lt. none t (omega arith))

-- the row after one whose registers are the standing places
one_more : (main : Tree) (mark : Tree → Bool) (u : List ℕ) (x : ℕ) (old : ℕ → Bool) → WellFormed main → PlacesOnce main
    → SameOn main old (stands main u 0 (length u)) → NoOverlapBelow main (u ++ x ∷ []) (length (u ++ x ∷ []))
    → started main mark old x true false true ≡ reaches main mark (u ++ x ∷ []) 0 (length (u ++ x ∷ []))
one_more main mark u x old good once same none =
    let w = u ++ x ∷ [] in
    let h = length u in
    let more : length w ≡ suc h = let e : length w ≡ h + 1 = length-append u (x ∷ []) in omega arith in
    let before : (q : ℕ) → stands main w 0 h q ≡ stands main u 0 h q =
    λ q. stands_same main w u h 0 h q (front_same u x) (omega arith) in
    let last : slice_index w h ≡ x = get_or-append_seam u x [] 0 in
    same_started main mark old (stands main w 0 h) x true false true (λ q g. same q g ∙ sym (before q))
    ∙ ap (λ y. started main mark (stands main w 0 h) y true false true) (sym last)
    ∙ vector_row main mark w h good once (subst (λ n. NoOverlapBelow main w n) more none)
    ∙ ap (λ n. reaches main mark w 0 n) (sym more)

module _ (main : Tree) (good : WellFormed main) (once : PlacesOnce main) (within : (p : ℕ) → has_place p main ≡ true
    → p < place_count main) (v : List Entry) (old : ℕ → ℕ → Bool) (reset : ℕ → Bool) (input : ℕ → ℕ)
    (run : IsControllerRun main v old reset input) where
  -- the leaves that are started in row k
  abbrev starts : (Tree → Bool) → ℕ → Bool
  starts mark k = main_starts main mark (old k) (input k) (reset k)

  starts_reset : (mark : Tree → Bool) (k : ℕ) → reset k ≡ true → starts mark k ≡ reaches main mark [] 0 0
  starts_reset mark k r = ap (λ b. main_starts main mark (old k) (input k) b) r ∙ reset_row main mark [] (old k)
      (input k) good once

  starts_vector : (mark : Tree → Bool) (k x : ℕ) (u : List ℕ) → reset k ≡ false → input k ≡ x
      → SameOn main (old k) (stands main u 0 (length u))
      → NoOverlapBelow main (u ++ x ∷ []) (length (u ++ x ∷ [])) → starts mark k ≡ reaches main mark (u ++ x ∷ []) 0
      (length (u ++ x ∷ []))
  starts_vector mark k x u r i same none =
      ap (λ b. main_starts main mark (old k) (input k) b) r
      ∙ ap (λ y. main_starts main mark (old k) y false) i
      ∙ one_more main mark u x (old k) good once same none

  -- row k + 1, by its entry
  next_starts : (k : ℕ) (o : Option Entry) → slice_get v k ≡ o → k < length v
      → (NoOverlapBelow main (since v k) (length (since v k))
      → SameOn main (old (suc k)) (stands main (since v k) 0 (length (since v k))))
      → (mark : Tree → Bool) → NoOverlapBelow main (and_then (since v k) o) (length (and_then (since v k) o))
      → starts mark (suc k) ≡ reaches main mark (and_then (since v k) o) 0 (length (and_then (since v k) o))
  next_starts k None at lt before mark none = absurd (let there = slice_get-get_or v k Reset lt in cc)
  next_starts k (Some Reset) at lt before mark none = starts_reset mark (suc k) (run.entries k Reset at)
  next_starts k (Some (Vector x)) at lt before mark none =
      let reads = run.entries k (Vector x) at in
      starts_vector mark (suc k) x (since v k) reads.0 reads.1 (before (no_overlap_front main (since v k) x none)) none

  rows_reach : (k : ℕ) → k ≤ length v → (mark : Tree → Bool) → NoOverlapBelow main (since v k) (length (since v k))
      → starts mark k ≡ reaches main mark (since v k) 0 (length (since v k))
  rows_reach zero le mark none = starts_reset mark 0 run.first
  rows_reach (suc k) le mark none =
      next_starts k (slice_get v k) refl (omega arith)
      (λ clear p g. run.next k (omega arith) p (within p g) ∙ rows_reach k (omega arith) (is_place p) clear
      ∙ sym (stands_reached main (since v k) 0 (length (since v k)) p))
      mark none

  pub rows_stand : (k : ℕ) → k ≤ length v → NoOverlapBelow main (since v k) (length (since v k)) → (p : ℕ)
      → main_starts main (is_place p) (old k) (input k) (reset k) ≡ stands main (since v k) 0 (length (since v k)) p
  rows_stand k le none p = rows_reach k le (is_place p) none
      ∙ sym (stands_reached main (since v k) 0 (length (since v k)) p)

  pub rows_fire : (k : ℕ) → k ≤ length v → NoOverlapBelow main (since v k) (length (since v k)) → (a : ℕ)
      → main_starts main (is_action a) (old k) (input k) (reset k) ≡ fires main (since v k) 0 (length (since v k)) a
  rows_fire k le none a = rows_reach k le (is_action a) none
      ∙ sym (fires_reached main (since v k) 0 (length (since v k)) a good)
