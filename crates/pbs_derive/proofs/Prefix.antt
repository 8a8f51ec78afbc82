-- What is said of positions up to n depends on the first n vectors alone.
use Rattle.std.proofs.Common.{◌≡◌, ℕ, ◌+◌, ◌-◌, ◌≤◌, not, ◌&&◌, nat_eq, List, slice_index, refl, sym, ◌∙◌, ap, arith}
use Rattle.std.proofs.lemmas.Bool.{eqb-true}
use Rattle.bool_terms.specs.Terms.{holds}
use Rattle.pbs_ast.specs.Trees.{Tree, Empty, Terminal, Action, Seq, Choice, Star, Hold, Scope}
use Rattle.pbs_derive.specs.Derivations.{SameTo, IsAbort, NoOverlapBelow, covers, alive, stands, fires, live, trips}
use Rattle.pbs_derive.specs.Derivations.{some_after, repeats}
use Rattle.pbs_derive.proofs.Positions.{or_same, and_same, and_where, within_same, after_same, first_same, hold_same}
use Rattle.pbs_derive.proofs.Repeats.{repeats_same}

-- both definitions, by the tree
covers_alive_same : (e : Tree) (v w : List ℕ) (n : ℕ) → SameTo n v w
    → ((i j : ℕ) → j ≤ n → covers e v i j ≡ covers e w i j) × ((i j : ℕ) → j ≤ n → alive e v i j ≡ alive e w i j)
covers_alive_same (Empty spot) v w n same = (λ i j le. refl, λ i j le. refl)
covers_alive_same (Action spot a) v w n same = (λ i j le. refl, λ i j le. refl)
covers_alive_same (Terminal spot p t) v w n same = (
  λ i j le. and_where (nat_eq j (i + 1)) (holds t (slice_index v i)) (holds t (slice_index w i))
      (λ here. let q : j ≡ i + 1 = eqb-true j (i + 1) here in ap (holds t) (same i (omega arith))),
  λ i j le. refl,
)
covers_alive_same (Seq spot e f) v w n same =
    let E = covers_alive_same e v w n same in let F = covers_alive_same f v w n same in (
      λ i j le. within_same i j (λ m. covers e v i m && covers f v m j) (λ m. covers e w i m && covers f w m j)
          (λ m low high. and_same _ _ _ _ (E.0 i m (omega arith)) (F.0 m j le)),
      λ i j le. or_same _ _ _ _ (E.1 i j le) (within_same i j (λ m. covers e v i m && alive f v m j)
          (λ m. covers e w i m && alive f w m j)
          (λ m low high. and_same _ _ _ _ (E.0 i m (omega arith)) (F.1 m j le))),
    )
covers_alive_same (Choice spot e f) v w n same =
    let E = covers_alive_same e v w n same in let F = covers_alive_same f v w n same in
    (λ i j le. or_same _ _ _ _ (E.0 i j le) (F.0 i j le), λ i j le. or_same _ _ _ _ (E.1 i j le) (F.1 i j le))
covers_alive_same (Star spot e) v w n same =
    let E = covers_alive_same e v w n same in (
      λ i j le. repeats_same (j - i) n (covers e v) (covers e w) E.0 i j le,
      λ i j le. within_same i j (λ m. repeats (covers e v) (m - i) i m && alive e v m j)
          (λ m. repeats (covers e w) (m - i) i m && alive e w m j)
          (λ m low high. and_same _ _ _ _ (repeats_same (m - i) n (covers e v) (covers e w) E.0 i m (omega arith))
          (E.1 m j le)),
    )
covers_alive_same (Hold spot t e) v w n same =
    let E = covers_alive_same e v w n same in (
      λ i j le. and_same _ _ _ _ (E.0 i j le) (hold_same t v w n i j same le),
      λ i j le. and_same _ _ _ _ (E.1 i j le) (hold_same t v w n i j same le),
    )
covers_alive_same (Scope spot s e x h) v w n same =
    let E = covers_alive_same e v w n same in let X = covers_alive_same x v w n same in
    let H = covers_alive_same h v w n same in
    let T : (i m : ℕ) → m ≤ n → trips e x v i m ≡ trips e x w i m = λ i m le. and_same _ _ _ _ (X.0 i m le)
    (E.1 i (m - 1) (omega arith)) in (
      λ i j le. or_same _ _ _ _ (and_same _ _ _ _ (ap not (after_same i j (trips e x v i) (trips e x w i)
          (λ m low high. T i m (omega arith)))) (E.0 i j le))
          (first_same i j (trips e x v i) (trips e x w i) (λ m. covers h v m j) (λ m. covers h w m j)
          (λ m low high. T i m (omega arith)) (λ m low high. H.0 m j le)),
      λ i j le. or_same _ _ _ _ (and_same _ _ _ _ (ap not (after_same i j (trips e x v i) (trips e x w i)
          (λ m low high. T i m (omega arith)))) (E.1 i j le))
          (first_same i j (trips e x v i) (trips e x w i) (λ m. alive h v m j) (λ m. alive h w m j)
          (λ m low high. T i m (omega arith)) (λ m low high. H.1 m j le)),
    )

pub covers_same : (e : Tree) (v w : List ℕ) (n i j : ℕ) → SameTo n v w → j ≤ n → covers e v i j ≡ covers e w i j
covers_same e v w n i j same le = (covers_alive_same e v w n same).0 i j le

pub alive_same : (e : Tree) (v w : List ℕ) (n i k : ℕ) → SameTo n v w → k ≤ n → alive e v i k ≡ alive e w i k
alive_same e v w n i k same le = (covers_alive_same e v w n same).1 i k le

trips_same : (e x : Tree) (v w : List ℕ) (n i m : ℕ) → SameTo n v w → m ≤ n → trips e x v i m ≡ trips e x w i m
trips_same e x v w n i m same le = and_same _ _ _ _ (covers_same x v w n i m same le)
    (alive_same e v w n i (m - 1) same (omega arith))

pub abort_same : (e x : Tree) (v w : List ℕ) (n i m : ℕ) → SameTo n v w → m ≤ n → IsAbort e x v i m → IsAbort e x w i m
abort_same e x v w n i m same le a = (
  a.0,
  sym (trips_same e x v w n i m same le) ∙ a.1,
  λ q low high t. a.2 q low high (trips_same e x v w n i q same (omega arith) ∙ t),
)

star_same : (e : Tree) (v w : List ℕ) (n i m : ℕ) → SameTo n v w → m ≤ n → repeats (covers e v) (m - i) i m ≡ repeats
    (covers e w) (m - i) i m
star_same e v w n i m same le = repeats_same (m - i) n (covers e v) (covers e w)
    (covers_alive_same e v w n same).0 i m le

quiet_same : (e x : Tree) (v w : List ℕ) (n i k : ℕ) → SameTo n v w → k ≤ n → not (some_after i k (trips e x v i))
    ≡ not (some_after i k (trips e x w i))
quiet_same e x v w n i k same le = ap not (after_same i k (trips e x v i) (trips e x w i)
    (λ m low high. trips_same e x v w n i m same (omega arith)))

pub stands_same : (e : Tree) (v w : List ℕ) (n i k p : ℕ) → SameTo n v w → k ≤ n → stands e v i k p ≡ stands e w i k p
stands_same (Empty spot) v w n i k p same le = refl
stands_same (Action spot a) v w n i k p same le = refl
stands_same (Terminal spot q t) v w n i k p same le = refl
stands_same (Seq spot e f) v w n i k p same le =
    or_same _ _ _ _ (stands_same e v w n i k p same le)
    (within_same i k (λ m. covers e v i m && stands f v m k p) (λ m. covers e w i m && stands f w m k p)
    (λ m low high. and_same _ _ _ _ (covers_same e v w n i m same (omega arith)) (stands_same f v w n m k p same le)))
stands_same (Choice spot e f) v w n i k p same le = or_same _ _ _ _ (stands_same e v w n i k p same le)
    (stands_same f v w n i k p same le)
stands_same (Star spot e) v w n i k p same le =
    within_same i k (λ m. repeats (covers e v) (m - i) i m && stands e v m k p)
    (λ m. repeats (covers e w) (m - i) i m && stands e w m k p)
    (λ m low high. and_same _ _ _ _ (star_same e v w n i m same (omega arith)) (stands_same e v w n m k p same le))
stands_same (Hold spot t e) v w n i k p same le = and_same _ _ _ _ (stands_same e v w n i k p same le)
    (hold_same t v w n i k same le)
stands_same (Scope spot s e x h) v w n i k p same le =
    or_same _ _ _ _
    (and_same _ _ _ _ (quiet_same e x v w n i k same le)
    (or_same _ _ _ _ (stands_same e v w n i k p same le)
    (and_same _ _ _ _ (stands_same x v w n i k p same le) (alive_same e v w n i k same le))))
    (first_same i k (trips e x v i) (trips e x w i) (λ m. stands h v m k p) (λ m. stands h w m k p)
    (λ m low high. trips_same e x v w n i m same (omega arith)) (λ m low high. stands_same h v w n m k p same le))

pub live_same : (e : Tree) (v w : List ℕ) (n i k s j : ℕ) → SameTo n v w → k ≤ n → live e v i k s j ≡ live e w i k s j
live_same (Empty spot) v w n i k s j same le = refl
live_same (Action spot a) v w n i k s j same le = refl
live_same (Terminal spot p t) v w n i k s j same le = refl
live_same (Seq spot e f) v w n i k s j same le =
    or_same _ _ _ _ (live_same e v w n i k s j same le)
    (within_same i k (λ m. covers e v i m && live f v m k s j) (λ m. covers e w i m && live f w m k s j)
    (λ m low high. and_same _ _ _ _ (covers_same e v w n i m same (omega arith)) (live_same f v w n m k s j same le)))
live_same (Choice spot e f) v w n i k s j same le = or_same _ _ _ _ (live_same e v w n i k s j same le)
    (live_same f v w n i k s j same le)
live_same (Star spot e) v w n i k s j same le =
    within_same i k (λ m. repeats (covers e v) (m - i) i m && live e v m k s j)
    (λ m. repeats (covers e w) (m - i) i m && live e w m k s j)
    (λ m low high. and_same _ _ _ _ (star_same e v w n i m same (omega arith)) (live_same e v w n m k s j same le))
live_same (Hold spot t e) v w n i k s j same le = and_same _ _ _ _ (live_same e v w n i k s j same le)
    (hold_same t v w n i k same le)
live_same (Scope spot q e x h) v w n i k s j same le =
    or_same _ _ _ _
    (and_same _ _ _ _ (quiet_same e x v w n i k same le)
    (or_same _ _ _ _ (live_same e v w n i k s j same le) (and_same _ _ _ _ refl (alive_same e v w n i k same le))))
    (first_same i k (trips e x v i) (trips e x w i) (λ m. live h v m k s j) (λ m. live h w m k s j)
    (λ m low high. trips_same e x v w n i m same (omega arith)) (λ m low high. live_same h v w n m k s j same le))

pub fires_same : (e : Tree) (v w : List ℕ) (n i k a : ℕ) → SameTo n v w → k ≤ n → fires e v i k a ≡ fires e w i k a
fires_same (Empty spot) v w n i k a same le = refl
fires_same (Action spot b) v w n i k a same le = refl
fires_same (Terminal spot p t) v w n i k a same le = refl
fires_same (Seq spot e f) v w n i k a same le =
    or_same _ _ _ _ (fires_same e v w n i k a same le)
    (within_same i k (λ m. covers e v i m && fires f v m k a) (λ m. covers e w i m && fires f w m k a)
    (λ m low high. and_same _ _ _ _ (covers_same e v w n i m same (omega arith)) (fires_same f v w n m k a same le)))
fires_same (Choice spot e f) v w n i k a same le = or_same _ _ _ _ (fires_same e v w n i k a same le)
    (fires_same f v w n i k a same le)
fires_same (Star spot e) v w n i k a same le =
    within_same i k (λ m. repeats (covers e v) (m - i) i m && fires e v m k a)
    (λ m. repeats (covers e w) (m - i) i m && fires e w m k a)
    (λ m low high. and_same _ _ _ _ (star_same e v w n i m same (omega arith)) (fires_same e v w n m k a same le))
fires_same (Hold spot t e) v w n i k a same le = and_same _ _ _ _ (fires_same e v w n i k a same le)
    (hold_same t v w n i k same le)
fires_same (Scope spot s e x h) v w n i k a same le =
    or_same _ _ _ _
    (and_same _ _ _ _ (quiet_same e x v w n i k same le) (fires_same e v w n i k a same le))
    (first_same i k (trips e x v i) (trips e x w i) (λ m. fires h v m k a) (λ m. fires h w m k a)
    (λ m low high. trips_same e x v w n i m same (omega arith)) (λ m low high. fires_same h v w n m k a same le))

pub no_overlap_same : (main : Tree) (v w : List ℕ) (n k : ℕ) → SameTo n v w → k ≤ n + 1 → NoOverlapBelow main v k
    → NoOverlapBelow main w k
no_overlap_same main v w n k same le none t lt s j less a b =
    none t lt s j less
    (live_same main v w n 0 t s j same (omega arith) ∙ a)
    (live_same main v w n 0 t s t same (omega arith) ∙ b)
