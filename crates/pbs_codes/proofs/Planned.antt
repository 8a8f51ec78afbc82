-- What the table of pairs and the signatures tell of never places, twins and leaders.
use Rattle.std.proofs.Common.{◌≡◌, ℕ, ◌<◌, inl, inr, true, false, List}
use Rattle.std.proofs.Common.{length, refl, sym, ◌∙◌, ap, subst, arith}
use Rattle.std.specs.Prelude.{Contains, slice_index}
use Rattle.std.proofs.lemmas.Bool.{cases_lt, both_ways, false_from_ne_true}
use Rattle.pbs_ast.specs.Trees.{Tree}
use Rattle.pbs_ast.specs.Sound.{place_count, IsCounted}
use Rattle.pbs_derive.proofs.Positions.{same_test}
use Rattle.pbs_edges.specs.Walks.{Together}
use Rattle.pbs_edges.specs.Found.{IsFirstPlace, AreEdges}
use Rattle.pbs_edges.specs.declared.edge.Edge.{Edge}
use Rattle.pbs_edges.specs.declared.edge.Edges.{Edges}
use Rattle.pbs_edges.proofs.Listed.{numbers}
use Rattle.pbs_edges.proofs.Numbering.{is_numbered}
use Rattle.pbs_edges.proofs.Rounds.{place_found, place_from_first}
use Rattle.pbs_edges.proofs.Sorted.{contains_from, contains_to}
use Rattle.pbs_overlap.specs.declared.pairs.Pairs.{Pairs}
use Rattle.pbs_overlap.specs.Told.{TellsTogether}
use Rattle.pbs_overlap.proofs.Plans.{in_tree}
use Rattle.pbs_codes.specs.Twins.{IsNever, HasEdge, AreTwins, IsLowestTwin, IsLeaderOf, IsLeader}
use Rattle.pbs_codes.specs.Groups.{Grouped}
use Rattle.pbs_codes.specs.inner.Signatures.{AreSignatures, is_start, sources, signature}
use Rattle.pbs_codes.specs.inner.Leading.{may_stand, signature_at, IsLowestLike, Leads, AreLed}
use Rattle.pbs_codes.specs.Plans.{IsCodePlan}
use Rattle.net_core.specs.declared.codes.CodePlan.{CodePlan}
use Rattle.pbs_codes.proofs.Sources.{pair_from, pair_to, edges_rise, sources_rise, same_pairs, start_to, start_from}
use Rattle.pbs_codes.proofs.Sources.{HasPair, starts_same, sources_same, signature_same}

-- the places of edges are the tree's
pub starts_within : (main : Tree) (edges : Edges) → AreEdges main edges → IsCounted main → (p : ℕ)
    → Contains edges.starts p → p < place_count main
starts_within main edges found counted p c =
    let first = (found.starts p).0 c in
    let high = (place_found (place_from_first first.1) 0 0 0 (is_numbered main counted)).high in omega arith

pub follows_within : (main : Tree) (edges : Edges) → AreEdges main edges → IsCounted main → (d : Edge)
    → Contains edges.follows d → d.to < place_count main
follows_within main edges found counted d c =
    (in_tree main (is_numbered main counted) d ((found.follows d).0 c)).to

module _ (main : Tree) (edges : Edges) (found : AreEdges main edges) where
  start_is : (p q : ℕ) → is_start edges.starts p ≡ is_start edges.starts q → IsFirstPlace main p
      → IsFirstPlace main q
  start_is p q e f =
      let there = start_from edges.starts p (contains_to edges.starts p ((found.starts p).1 f)) in
      (found.starts q).0 (contains_from edges.starts q (start_to edges.starts q (sym e ∙ there)))

  start_was : (p q : ℕ) → (IsFirstPlace main p → IsFirstPlace main q) → is_start edges.starts p ≡ true
      → is_start edges.starts q ≡ true
  start_was p q f h =
      let first = (found.starts p).0 (contains_from edges.starts p (start_to edges.starts p h)) in
      start_from edges.starts q (contains_to edges.starts q ((found.starts q).1 (f first)))

  pair_of : (r p n : ℕ) → HasEdge main r p n → HasPair (sources edges.follows p) r n
  pair_of r p n d = pair_from edges.follows r p n
      (contains_to edges.follows (numbers r p n) ((found.follows (numbers r p n)).1 d))

  edge_of : (r p n : ℕ) → HasPair (sources edges.follows p) r n → HasEdge main r p n
  edge_of r p n h = (found.follows (numbers r p n)).0
      (contains_from edges.follows (numbers r p n) (pair_to edges.follows r p n h))

  edge_moved : (p q : ℕ) → sources edges.follows p ≡ sources edges.follows q → (r n : ℕ) → HasEdge main r p n
      → HasEdge main r q n
  edge_moved p q e r n d = edge_of r q n (subst (λ xs. HasPair xs r n) e (pair_of r p n d))

  pub twins_from : (p q : ℕ) → Together main p p → Together main q q
      → signature edges.starts edges.follows p ≡ signature edges.starts edges.follows q → AreTwins main p q
  twins_from p q a b e =
      let s = starts_same edges.starts edges.follows p q e in
      let f = sources_same edges.starts edges.follows p q e in
      record {
        first = a;
        second = b;
        starts = (start_is p q s, start_is q p (sym s));
        follows = λ r n. (edge_moved p q f r n, edge_moved q p (sym f) r n);
      }

  pub twins_to : (p q : ℕ) → AreTwins main p q
      → signature edges.starts edges.follows p ≡ signature edges.starts edges.follows q
  twins_to p q t =
      let rise = edges_rise edges.follows found.follows_rise in
      signature_same edges.starts edges.follows p q
      (same_test (is_start edges.starts p) (is_start edges.starts q) (start_was p q t.starts.0)
      (start_was q p t.starts.1))
      (same_pairs (sources edges.follows p) (sources edges.follows q) (sources_rise edges.follows p rise)
      (sources_rise edges.follows q rise)
      (λ r n h. pair_of r q n ((t.follows r n).0 (edge_of r p n h)))
      (λ r n h. pair_of r p n ((t.follows r n).1 (edge_of r q n h))))

module _ (main : Tree) (edges : Edges) (found : AreEdges main edges) (pairs : Pairs) (tells : TellsTogether main pairs)
    (all : List (List ℕ)) (signs : AreSignatures edges.starts edges.follows (place_count main) all) where
  stands_to : (p : ℕ) → p < place_count main → may_stand pairs p ≡ true → Together main p p
  stands_to p l h = (tells.exact p p l l).0 h

  stands_from : (p : ℕ) → p < place_count main → Together main p p → may_stand pairs p ≡ true
  stands_from p l t = (tells.exact p p l l).1 t

  never_to : (p : ℕ) → p < place_count main → may_stand pairs p ≡ false → IsNever main p
  never_to p l h t = both_ways (may_stand pairs p) h (stands_from p l t)

  never_from : (p : ℕ) → p < place_count main → IsNever main p → may_stand pairs p ≡ false
  never_from p l never = false_from_ne_true (may_stand pairs p) (λ h. never (stands_to p l h))

  like_to : (p q : ℕ) → p < place_count main → q < place_count main → may_stand pairs p ≡ true
      → may_stand pairs q ≡ true → signature_at all p ≡ signature_at all q → AreTwins main p q
  like_to p q l m a b e = twins_from main edges found p q (stands_to p l a) (stands_to q m b)
      (sym (signs.each p l) ∙ (e ∙ signs.each q m))

  like_from : (p q : ℕ) → p < place_count main → q < place_count main → AreTwins main p q
      → signature_at all p ≡ signature_at all q
  like_from p q l m t = signs.each p l ∙ (twins_to main edges found p q t ∙ sym (signs.each q m))

  lowest_to : (p leader : ℕ) → p < place_count main → may_stand pairs p ≡ true → IsLowestLike pairs all p leader
      → IsLowestTwin main p leader
  lowest_to p leader l stands low = elim (cases_lt p leader) [
    | inl less ↦ absurd (low.lowest p less stands refl)
    | inr up ↦ record {
      twin = like_to p leader l (omega arith) stands low.stands (sym low.like);
      lowest = λ q less t. low.lowest q less (stands_from q (omega arith) t.second)
          (sym (like_from p q l (omega arith) t));
    }
  ]

  lowest_from : (p : ℕ) → p < place_count main → IsLeader main p
      → (may_stand pairs p ≡ true) × IsLowestLike pairs all p p
  lowest_from p l leader =
      let stands = stands_from p l leader.twin.first in (
        stands,
        record {
          stands = stands;
          like = refl;
          lowest = λ q less may same. leader.lowest q less (like_to p q l (omega arith) stands may (sym same));
        },
      )

  leader_to : (p leader : ℕ) → p < place_count main → Leads pairs all p leader → IsLeaderOf main p leader
  leader_to p leader l h = elim h [
    | inl idle ↦ inl (never_to p l idle.0, idle.1)
    | inr led ↦ inr (lowest_to p leader l led.0 led.1)
  ]

  pub is_code_plan : (never leaders firsts : List ℕ) (seen : List (List ℕ)) (plan : CodePlan)
      → AreLed pairs all (place_count main) never leaders firsts seen → plan.never ≡ never → plan.leaders ≡ leaders
      → Grouped main firsts plan.groups → IsCodePlan main plan
  is_code_plan never leaders firsts seen plan led n l g = record {
    never = λ p. (
      λ c. let w = (led.never_are p).0 (subst (λ xs. Contains xs p) n c) in (w.0, never_to p w.0 w.1),
      λ w. subst (λ xs. Contains xs p) (sym n) ((led.never_are p).1 (w.0, never_from p w.0 w.1)),
    );
    never_rise = rw n led.never_rise;
    each = ap length l ∙ led.each;
    leaders = λ p less. rw l (leader_to p (slice_index leaders p) less (led.lead p less));
    groups = (
      firsts,
      record {
        exact = λ p. (
          λ c. let w = (led.firsts_are p).0 c in (w.0, lowest_to p p w.0 w.1 w.2),
          λ w. let v = lowest_from p w.0 w.1 in (led.firsts_are p).1 (w.0, v.0, v.1),
        );
        rise = led.firsts_rise;
      },
      g,
    );
  }
