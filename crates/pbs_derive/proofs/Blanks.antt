-- Spans and the numbers of nodes, places and scopes decide neither what a tree covers nor where it is alive.
use Rattle.std.proofs.Common.{◌≡◌, ℕ, ◌-◌, not, ◌&&◌, List, refl, ap, arith}
use Rattle.pbs_ast.specs.Trees.{Tree, Empty, Terminal, Action, Seq, Choice, Star, Hold, Scope}
use Rattle.pbs_ast.specs.Repeats.{blank}
use Rattle.pbs_derive.specs.Derivations.{covers, alive, trips, repeats, some_after}
use Rattle.pbs_derive.proofs.Positions.{or_same, and_same, within_same, after_same, first_same}
use Rattle.pbs_derive.proofs.Repeats.{repeats_same}

star_blank : (e : Tree) (v : List ℕ) → ((i j : ℕ) → covers (blank e) v i j ≡ covers e v i j) → (d i j : ℕ)
    → repeats (covers (blank e) v) d i j ≡ repeats (covers e v) d i j
star_blank e v f d i j = repeats_same d j (covers (blank e) v) (covers e v) (λ a b le. f a b) i j (omega arith)

-- both definitions, by the tree
blank_both : (e : Tree) (v : List ℕ) → ((i j : ℕ) → covers (blank e) v i j ≡ covers e v i j)
    × ((i j : ℕ) → alive (blank e) v i j ≡ alive e v i j)
blank_both (Empty spot) v = (λ i j. refl, λ i j. refl)
blank_both (Action spot a) v = (λ i j. refl, λ i j. refl)
blank_both (Terminal spot p t) v = (λ i j. refl, λ i j. refl)
blank_both (Seq spot e f) v =
    let E = blank_both e v in let F = blank_both f v in (
      λ i j. within_same i j (λ m. covers (blank e) v i m && covers (blank f) v m j)
          (λ m. covers e v i m && covers f v m j)
          (λ m low high. and_same _ _ _ _ (E.0 i m) (F.0 m j)),
      λ i j. or_same _ _ _ _ (E.1 i j) (within_same i j (λ m. covers (blank e) v i m && alive (blank f) v m j)
          (λ m. covers e v i m && alive f v m j)
          (λ m low high. and_same _ _ _ _ (E.0 i m) (F.1 m j))),
    )
blank_both (Choice spot e f) v =
    let E = blank_both e v in let F = blank_both f v in
    (λ i j. or_same _ _ _ _ (E.0 i j) (F.0 i j), λ i j. or_same _ _ _ _ (E.1 i j) (F.1 i j))
blank_both (Star spot e) v =
    let E = blank_both e v in (
      λ i j. star_blank e v E.0 (j - i) i j,
      λ i j. within_same i j (λ m. repeats (covers (blank e) v) (m - i) i m && alive (blank e) v m j)
          (λ m. repeats (covers e v) (m - i) i m && alive e v m j)
          (λ m low high. and_same _ _ _ _ (star_blank e v E.0 (m - i) i m) (E.1 m j)),
    )
blank_both (Hold spot t e) v =
    let E = blank_both e v in
    (λ i j. and_same _ _ _ _ (E.0 i j) refl, λ i j. and_same _ _ _ _ (E.1 i j) refl)
blank_both (Scope spot s e x h) v =
    let E = blank_both e v in let X = blank_both x v in let H = blank_both h v in
    let T : (i m : ℕ) → trips (blank e) (blank x) v i m ≡ trips e x v i m = λ i m. and_same _ _ _ _ (X.0 i m)
    (E.1 i (m - 1)) in
    let quiet : (i j : ℕ) → not (some_after i j (trips (blank e) (blank x) v i)) ≡ not (some_after i j (trips e x v i))
    = λ i j. ap not (after_same i j (trips (blank e) (blank x) v i) (trips e x v i) (λ m low high. T i m)) in (
      λ i j. or_same _ _ _ _ (and_same _ _ _ _ (quiet i j) (E.0 i j))
          (first_same i j (trips (blank e) (blank x) v i) (trips e x v i) (λ m. covers (blank h) v m j)
          (λ m. covers h v m j) (λ m low high. T i m) (λ m low high. H.0 m j)),
      λ i j. or_same _ _ _ _ (and_same _ _ _ _ (quiet i j) (E.1 i j))
          (first_same i j (trips (blank e) (blank x) v i) (trips e x v i) (λ m. alive (blank h) v m j)
          (λ m. alive h v m j) (λ m low high. T i m) (λ m low high. H.1 m j)),
    )

pub covers_blank : (e : Tree) (v : List ℕ) (i j : ℕ) → covers (blank e) v i j ≡ covers e v i j
covers_blank e v = (blank_both e v).0
