-- The edges of a tree as a plan needs them.
use Rattle.std.proofs.Common.{◌≡◌, ℕ, zero, suc, ◌+◌, ◌<◌, ◌≤◌, inl, inr, List, length, get_or}
use Rattle.std.proofs.Common.{sym, ◌∙◌, ap, subst, arith, add-one}
use Rattle.std.specs.Prelude.{slice_index}
use Rattle.std.specs.List.{AllAdjacentBelow}
use Rattle.std.proofs.lemmas.Bool.{cases_eq, cases_lt}
use Rattle.std.proofs.lemmas.Option.{same_Some, slice_get-get_or}
use Rattle.pbs_ast.specs.Trees.{Tree}
use Rattle.pbs_ast.specs.Sound.{place_count, visit_count, scope_count, IsCounted}
use Rattle.pbs_edges.specs.declared.edge.Edge.{Edge}
use Rattle.pbs_edges.specs.declared.edge.Edges.{Edges}
use Rattle.pbs_edges.specs.Listed.{first_places, follow_edges}
use Rattle.pbs_edges.specs.Found.{AreEdges, IsBefore, IsFollowEdge, IsFirstPlace}
use Rattle.pbs_edges.proofs.Numbering.{IsNumbered}
use Rattle.pbs_edges.proofs.Rounds.{place_found, place_left_by, place_reached_by, place_from_first, node_found, node_of}
use Rattle.pbs_edges.proofs.Listed.{OneOf, follow_listed, listed_follow, first_listed}
use Rattle.pbs_ast.specs.Trees.{Empty, Terminal, Action, Seq, Choice, Star, Hold, Scope}
use Rattle.pbs_ast.specs.Sound.{node_count}
use Rattle.pbs_edges.proofs.Numbering.{is_numbered}
use Rattle.pbs_overlap.specs.declared.ranges.ScopeRange.{ScopeRange}
use Rattle.pbs_overlap.specs.declared.search.Plan.{Plan}
use Rattle.pbs_overlap.specs.Ranges.{leaves, ranges}
use Rattle.pbs_overlap.specs.inner.Stepping.{IsStepBy}
use Rattle.pbs_overlap.specs.inner.Joints.{TellsJoint}
use Rattle.pbs_overlap.specs.inner.Search.{step_at, first_at}
use Rattle.pbs_overlap.specs.inner.Planning.{edge_at, no_edge, FromsRise, AreStepsOf, AreSplit, IsSplit, IsPlan}
use Rattle.pbs_overlap.proofs.Leaves.{length-leaves, length-ranges}

-- the default doesn't matter within a list
pub any_default : {A : Type 0} (xs : List A) (k : ℕ) (a b : A) → k < length xs → get_or xs k a ≡ get_or xs k b
any_default xs k a b l = same_Some (get_or xs k a) (get_or xs k b)
    (sym (slice_get-get_or xs k a l) ∙ slice_get-get_or xs k b l)

from_next : (d e : Edge) → IsBefore d e → d.from ≤ e.from
from_next d e h = elim h [ inl l ↦ omega arith | inr p ↦ let q = p.0 in omega arith ]

pub froms_rise : (edges : List Edge) → AllAdjacentBelow IsBefore edges (length edges) → FromsRise edges
froms_rise edges up i zero l m = let e : i ≡ zero = omega arith in subst
    (λ k. (edge_at edges k).from ≤ (edge_at edges zero).from) (sym e) (omega arith)
froms_rise edges up i (suc j) l m = elim (cases_eq i (suc j)) [
  | inl e ↦ subst (λ k. (edge_at edges k).from ≤ (edge_at edges (suc j)).from) (sym e) (omega arith)
  | inr ne ↦
      let before = froms_rise edges up i j (omega arith) (omega arith) in
      let next : IsBefore (edge_at edges j) (edge_at edges (suc j)) = rw add-one at (up j no_edge (omega arith)) in
      let step = from_next (edge_at edges j) (edge_at edges (suc j)) next in
      omega arith
]

module _ (main : Tree) (number : IsNumbered main) where
  -- a follow edge's places and node are the tree's
  pub record InTree (d : Edge) : Type 0 where
    pub from : d.from < place_count main
    pub to : d.to < place_count main
    pub node : d.node < visit_count main

  pub in_tree : (d : Edge) → IsFollowEdge main d → InTree d
  in_tree d f =
      let a = (place_found (place_left_by f.3) 0 0 0 number).high in
      let b = (place_found (place_reached_by f.3) 0 0 0 number).high in
      let c = (node_found (node_of f.3) 0 0 0 number).high in
      record { from = omega arith; to = omega arith; node = omega arith }

  pub first_in_tree : (p : ℕ) → IsFirstPlace main p → p < place_count main
  first_in_tree p f = let a = (place_found (place_from_first f.1) 0 0 0 number).high in omega arith

  module _ (edges : Edges) (known : AreEdges main edges) where
    -- the edge of a number is one of the tree's
    pub edge_there : (k : ℕ) → k < length edges.follows → IsFollowEdge main (edge_at edges.follows k)
    edge_there k l = (known.follows (edge_at edges.follows k)).0
        (k, l, any_default edges.follows k (edge_at edges.follows k) no_edge l)

    pub edge_listed_at : (k : ℕ) → k < length edges.follows → OneOf (follow_edges main) (edge_at edges.follows k)
    edge_listed_at k l = listed_follow (edge_there k l).3

    -- an edge of the tree has a number
    pub edge_number : (d : Edge) → OneOf (follow_edges main) d
        → (k : ℕ) × (k < length edges.follows) × (edge_at edges.follows k ≡ d)
    edge_number d h =
        let c = (known.follows d).1 (follow_listed main d h) in
        (c.0, c.1, any_default edges.follows c.0 no_edge d c.1 ∙ c.2)

    pub start_number : (p : ℕ) → OneOf (first_places main) p
        → (k : ℕ) × (k < length edges.starts) × (slice_index edges.starts k ≡ p)
    start_number p h =
        let c = (known.starts p).1 (first_listed main p h) in
        (c.0, c.1, any_default edges.starts c.0 0 p c.1 ∙ c.2)

    pub start_there : (k : ℕ) → k < length edges.starts → IsFirstPlace main (slice_index edges.starts k)
    start_there k l = (known.starts (slice_index edges.starts k)).0
        (k, l, any_default edges.starts k (slice_index edges.starts k) 0 l)

scopes_few : (e : Tree) → scope_count e ≤ node_count e
scopes_few (Empty at) = omega arith
scopes_few (Terminal at p t) = omega arith
scopes_few (Action at a) = omega arith
scopes_few (Seq at e f) = let a = scopes_few e in let b = scopes_few f in omega arith
scopes_few (Choice at e f) = let a = scopes_few e in let b = scopes_few f in omega arith
scopes_few (Star at e) = let a = scopes_few e in omega arith
scopes_few (Hold at t e) = let a = scopes_few e in omega arith
scopes_few (Scope at s e x h) = let a = scopes_few e in let b = scopes_few x in let c = scopes_few h in omega arith

pub few_ranges : (main : Tree) → IsCounted main → length (ranges main) ≤ 32768
few_ranges main c = let a = scopes_few main in let b = length-ranges main in let d = c.nodes in omega arith

pub few_leaves : (main : Tree) → IsCounted main → length (leaves main) ≤ 4096
few_leaves main c = let b = length-leaves main in let d = c.places in omega arith

pub edge_places : (main : Tree) (edges : Edges) → IsCounted main → AreEdges main edges → (k : ℕ)
    → k < length edges.follows
    → ((edge_at edges.follows k).from < length (leaves main)) × ((edge_at edges.follows k).to < length (leaves main))
edge_places main edges c known k l =
    let t = in_tree main (is_numbered main c) (edge_at edges.follows k)
    (edge_there main (is_numbered main c) edges known k l) in
    let n = length-leaves main in
    (let a = t.from in omega arith, let a = t.to in omega arith)

pub is_plan : (main : Tree) (edges : Edges) (numbers : List ℕ) (scopes : List ScopeRange) (plan : Plan) → IsCounted main
    → AreEdges main edges → numbers ≡ leaves main → scopes ≡ ranges main → plan.places ≡ length numbers
    → AreStepsOf numbers scopes edges.follows (length edges.follows) plan.steps.items
    → AreSplit edges.follows (plan.places + 1) plan.firsts.items → TellsJoint main plan.terms
    → IsPlan main edges.follows plan
is_plan main edges numbers scopes plan counted known e f places steps split joint =
    let number : IsNumbered main = is_numbered main counted in
    let same : plan.places ≡ place_count main = places ∙ ap (λ xs. length xs) e ∙ length-leaves main in
    let few = counted.places in
    let there : (k : ℕ) → k < length edges.follows → InTree main number (edge_at edges.follows k) =
    λ k l. in_tree main number (edge_at edges.follows k) (edge_there main number edges known k l) in
    let is_split : (p : ℕ) → p ≤ plan.places → IsSplit edges.follows p (first_at plan p) =
    λ p l. split.each p (omega arith) in
    let size = steps.size in
    record {
      shaped = record {
        few = omega arith;
        firsts = split.size;
        within = λ p l. let w = (is_split p l).within in omega arith;
        rising = λ p l. elim (cases_lt (first_at plan (p + 1)) (first_at plan p)) [
          | inl less ↦
              let w = (is_split p (omega arith)).within in
              let a = (is_split p (omega arith)).before (first_at plan (p + 1)) less in
              let b = (is_split (p + 1) (omega arith)).after (first_at plan (p + 1)) (omega arith) (omega arith) in
              absurd (omega arith)
          | inr more ↦ more
        ];
        tos = λ k l. let m : k < length edges.follows = omega arith in
            let a = (steps.each k m).to in let b = (there k m).to in omega arith;
        of_place = joint.size ∙ sym same;
        count = joint.count;
        below = λ p l. joint.below p (omega arith);
        table = joint.table;
      };
      froms = λ k l. let m : k < length edges.follows = omega arith in
          let a = (steps.each k m).from in let b = (there k m).from in omega arith;
      places = same;
      size = size;
      steps = λ k l. subst (λ ns. IsStepBy ns (ranges main) (edge_at edges.follows k) (step_at plan.steps.items k)) e
          (subst (λ rs. IsStepBy numbers rs (edge_at edges.follows k) (step_at plan.steps.items k)) f (steps.each k l));
      split = is_split;
      joint = joint;
    }
