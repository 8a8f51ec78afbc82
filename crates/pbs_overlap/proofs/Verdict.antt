-- What the search says of the tree.
use Rattle.std.proofs.Common.{◌≡◌, ℕ, zero, suc, ◌+◌, ◌*◌, ◌/◌, ◌%◌, ◌<◌, ◌≤◌, Bool, true, false, not, ◌&&◌, inl, inr}
use Rattle.std.proofs.Common.{◌↔◌}
use Rattle.std.proofs.Common.{length, get_or, Option, Some, None, refl, sym, ◌∙◌, ap, subst, arith}
use Rattle.std.specs.Prelude.{slice_get, slice_index}
use Rattle.std.proofs.lemmas.Bool.{and_parts, and_from, cases_lt, not-true, not_from_false, false_from_ne_true}
use Rattle.std.proofs.lemmas.Bool.{cases_Bool, cond-true, cond-false}
use Rattle.std.proofs.lemmas.Nat.{div-mul-add, mod-mul-add, mul-add-lt, mod_below}
use Rattle.std.proofs.Math.Nat.{div-lt_iff_lt-mul}
use Rattle.pbs_ast.specs.Trees.{Tree}
use Rattle.pbs_ast.specs.Sound.{scopes_right}
use Rattle.pbs_edges.specs.declared.edge.Edge.{Edge}
use Rattle.pbs_edges.specs.declared.edge.Edges.{Edges}
use Rattle.pbs_edges.specs.Listed.{first_places, follow_edges}
use Rattle.pbs_edges.specs.Found.{AreEdges}
use Rattle.pbs_edges.specs.Walks.{Reaches, Together, IsRefused}
use Rattle.pbs_edges.specs.inner.ByNumber.{Fits, NodeInBody, EntersByNumber, AbortsAgreeByNumber}
use Rattle.pbs_edges.proofs.Numbering.{IsNumbered}
use Rattle.pbs_edges.proofs.Listed.{OneOf, listed_first, follow_listed}
use Rattle.pbs_edges.proofs.Closure.{reaches_from_together}
use Rattle.pbs_edges.proofs.Joint.{reaches_begin, reaches_next, reaches_all, refused_by_numbers, numbers_of_refused}
use Rattle.pbs_overlap.specs.declared.search.Plan.{Plan}
use Rattle.pbs_overlap.specs.declared.search.Reached.{Reached}
use Rattle.pbs_overlap.specs.declared.steps.Step.{Step}
use Rattle.pbs_overlap.specs.inner.Steps.{clash, refused_scope}
use Rattle.pbs_overlap.specs.inner.Stepping.{IsStep}
use Rattle.pbs_overlap.specs.inner.Joints.{joint_at}
use Rattle.pbs_overlap.specs.inner.Planning.{edge_at, IsPlan}
use Rattle.pbs_overlap.specs.inner.Search.{step_at, fit_at, first_at, marked_at, Between, Marked, Taken, TakenFrom}
use Rattle.pbs_overlap.specs.inner.Search.{Leads}
use Rattle.pbs_overlap.specs.inner.Search.{Reach, reach_start, reach_next, Searched}
use Rattle.pbs_overlap.specs.inner.Lowest.{IsLowest, refused_at, RefusesWith}
use Rattle.pbs_overlap.specs.declared.ranges.ScopeRange.{ScopeRange}
use Rattle.pbs_overlap.specs.Ranges.{ranges}
use Rattle.pbs_overlap.specs.declared.pairs.Pairs.{Pairs}
use Rattle.pbs_overlap.specs.Told.{says, TellsTogether}
use Rattle.pbs_overlap.proofs.Spans.{few_rising}
use Rattle.pbs_overlap.proofs.Plans.{in_tree, first_in_tree, edge_there, edge_listed_at, edge_number, start_number}
use Rattle.pbs_overlap.proofs.Plans.{start_there}
use Rattle.pbs_overlap.proofs.Stepping.{IsEdgeOf, body_to, agree_from_steps, disagree_from_steps, refused_from_steps}
use Rattle.pbs_overlap.proofs.Stepping.{least_from_steps}

positive : (m n : ℕ) → m < n * n → 0 < n
positive m zero l = absurd (omega arith)
positive m (suc n) l = omega arith

div_below : (m n : ℕ) → m < n * n → m / n < n
div_below m n l = (div-lt_iff_lt-mul {k = n} {x = m} {y = n} (positive m n l)).1 l

rem_below : (m n : ℕ) → m < n * n → m % n < n
rem_below m n l = mod_below m n (positive m n l)

module _ (main : Tree) (number : IsNumbered main) (right : scopes_right main ≡ true) (edges : Edges)
    (known : AreEdges main edges) (plan : Plan) (is : IsPlan main edges.follows plan) where
  edge : ℕ → Edge
  edge k = edge_at edges.follows k

  step : ℕ → Step
  step k = step_at plan.steps.items k

  in_edges : (k : ℕ) → k < length plan.steps.items → k < length edges.follows
  in_edges k l = let e = is.size in omega arith

  in_steps : (k : ℕ) → k < length edges.follows → k < length plan.steps.items
  in_steps k l = let e = is.size in omega arith

  is_step : (k : ℕ) → k < length plan.steps.items → IsStep main (edge k) (step k)
  unfolding edge step
  is_step k l = is.steps k (in_edges k l)

  is_edge : (k : ℕ) → k < length plan.steps.items → IsEdgeOf main number right (edge k)
  unfolding edge
  is_edge k l =
      let t = in_tree main number (edge_at edges.follows k) (edge_there main number edges known k (in_edges k l)) in
      record { from = t.from; to = t.to; node = t.node }

  listed : (k : ℕ) → k < length plan.steps.items → OneOf (follow_edges main) (edge k)
  unfolding edge
  listed k l = edge_listed_at main number edges known k (in_edges k l)

  from_is : (k : ℕ) → k < length plan.steps.items → (step k).from ≡ (edge k).from
  from_is k l = (is_step k l).from

  to_is : (k : ℕ) → k < length plan.steps.items → (step k).to ≡ (edge k).to
  to_is k l = (is_step k l).to

  -- Two steps that fit

  joint_edges : ℕ → ℕ → Bool
  joint_edges i j = joint_at plan.terms (edge i).from (edge j).from

  fits_from : (i j : ℕ) → i < length plan.steps.items → j < length plan.steps.items → joint_edges i j ≡ true
      → fit_at plan.steps.items i j ≡ true → Fits main (edge i) (edge j)
  unfolding joint_edges step
  fits_from i j l m joint fit =
      let p = and_parts (not (clash (step i) (step j))) (not (clash (step j) (step i))) fit in
      record {
        terms = ((is.joint).exact (edge i).from (edge j).from (is_edge i l).from (is_edge j m).from).0 joint;
        aborts = agree_from_steps main number right (edge i) (edge j) (step i) (step j) (is_edge i l) (is_edge j m)
            (is_step i l) (is_step j m) (not-true (clash (step i) (step j)) p.0);
        aborts_back = agree_from_steps main number right (edge j) (edge i) (step j) (step i) (is_edge j m) (is_edge i l)
            (is_step j m) (is_step i l) (not-true (clash (step j) (step i)) p.1);
      }

  no_clash : (i j : ℕ) → i < length plan.steps.items → j < length plan.steps.items
      → AbortsAgreeByNumber main (edge i) (edge j) → not (clash (step i) (step j)) ≡ true
  no_clash i j l m agree = not_from_false (clash (step i) (step j)) (false_from_ne_true (clash (step i) (step j)) (λ t.
      disagree_from_steps main number right (edge i) (edge j) (step i) (step j) (is_edge i l) (is_edge j m)
      (is_step i l)
      (is_step j m) t agree))

  fit_from : (i j : ℕ) → i < length plan.steps.items → j < length plan.steps.items → Fits main (edge i) (edge j)
      → fit_at plan.steps.items i j ≡ true
  unfolding step
  fit_from i j l m f = and_from (not (clash (step i) (step j))) (not (clash (step j) (step i)))
      (no_clash i j l m f.aborts) (no_clash j i m l f.aborts_back)

  joint_from : (i j : ℕ) → i < length plan.steps.items → j < length plan.steps.items → Fits main (edge i) (edge j)
      → joint_edges i j ≡ true
  unfolding joint_edges
  joint_from i j l m f = ((is.joint).exact (edge i).from (edge j).from (is_edge i l).from (is_edge j m).from).1 f.terms

  -- The steps from a place

  at_place : (p k : ℕ) → p < plan.places → first_at plan p ≤ k → k < first_at plan (p + 1)
      → (k < length plan.steps.items) × ((edge k).from ≡ p)
  unfolding edge
  at_place p k l low high =
      let a = is.split p (omega arith) in
      let b = is.split (p + 1) (omega arith) in
      let c = (is.shaped).within (p + 1) (omega arith) in
      let d = is.size in
      let inside : k < length plan.steps.items = omega arith in
      let up = a.after k low (omega arith) in
      let down = b.before k high in
      (inside, omega arith)

  from_place : (k : ℕ) → k < length plan.steps.items
      → (first_at plan (edge k).from ≤ k) × (k < first_at plan ((edge k).from + 1))
  unfolding edge
  from_place k l =
      let p = (edge_at edges.follows k).from in
      let t : (edge_at edges.follows k).from < plan.places = let e = is.places in let f = (is_edge k l).from in
      omega arith in
      let a = is.split (edge_at edges.follows k).from (omega arith) in
      let b = is.split ((edge_at edges.follows k).from + 1) (omega arith) in
      let n = is.size in (
        elim (cases_lt k (first_at plan (edge_at edges.follows k).from)) [
          | inl below ↦ absurd (let z = a.before k below in omega arith)
          | inr above ↦ above
        ],
        elim (cases_lt k (first_at plan ((edge_at edges.follows k).from + 1))) [
          | inl below ↦ below
          | inr above ↦ absurd (let z = b.after k above (omega arith) in omega arith)
        ],
      )

  -- What a cell says of the tree

  record Said (cell : ℕ) : Type 0 where
    inside : cell < plan.places * plan.places
    reaches : Reaches main (cell / plan.places) (cell % plan.places)

  said_of : (p q cell : ℕ) → p < plan.places → q < plan.places → cell ≡ p * plan.places + q → Reaches main p q
      → Said cell
  said_of p q cell l m e r = record {
    inside = let z = mul-add-lt p plan.places q plan.places l m in omega arith;
    reaches = subst (λ a. Reaches main a (cell % plan.places))
        (sym (ap (λ c. c / plan.places) e ∙ div-mul-add p plan.places q m))
        (subst (λ b. Reaches main p b) (sym (ap (λ c. c % plan.places) e ∙ mod-mul-add p plan.places q m)) r);
  }

  row_column : (cell : ℕ) → cell < plan.places * plan.places → (cell / plan.places < plan.places) ×
      (cell % plan.places < plan.places)
  row_column cell l = (div_below cell plan.places l, rem_below cell plan.places l)

  started : (k : ℕ) → k < length edges.starts → slice_index edges.starts k < plan.places
  started k l = let e = is.places in
      let f = first_in_tree main number (slice_index edges.starts k) (start_there main number edges known k l) in
      omega arith

  joint_said : (from i j : ℕ) → (edge i).from ≡ from / plan.places → (edge j).from ≡ from % plan.places
      → joint_at plan.terms (from / plan.places) (from % plan.places) ≡ true → joint_edges i j ≡ true
  unfolding joint_edges
  joint_said from i j e f h = ap (λ p. joint_at plan.terms p (edge j).from) e ∙ ap
      (λ q. joint_at plan.terms (from / plan.places) q) f ∙ h

  said_to : (i j cell : ℕ) → i < length plan.steps.items → j < length plan.steps.items
      → cell ≡ (step_at plan.steps.items i).to * plan.places + (step_at plan.steps.items j).to
      → Reaches main (edge i).to (edge j).to → Said cell
  unfolding step
  said_to i j cell l m e r = said_of (step_at plan.steps.items i).to (step_at plan.steps.items j).to cell
      ((is.shaped).tos i l)
      ((is.shaped).tos j m) e (subst (λ x. Reaches main x (step_at plan.steps.items j).to) (sym (to_is i l))
      (subst (λ y. Reaches main (edge i).to y) (sym (to_is j m)) r))

  said : {cell : ℕ} → Reach plan edges.starts cell → Said cell
  said {cell} (reach_start h) =
      let n : ℕ = length edges.starts in
      let low = div_below h.0 (length edges.starts) h.2 in
      let high = rem_below h.0 (length edges.starts) h.2 in
      let p : ℕ = slice_index edges.starts (h.0 / length edges.starts) in
      let q : ℕ = slice_index edges.starts (h.0 % length edges.starts) in
      said_of (slice_index edges.starts (h.0 / length edges.starts))
      (slice_index edges.starts (h.0 % length edges.starts)) cell
      (started (h.0 / length edges.starts) low) (started (h.0 % length edges.starts) high) (h.3).reached
      (reaches_begin main number (slice_index edges.starts (h.0 / length edges.starts))
      (slice_index edges.starts (h.0 % length edges.starts))
      (listed_first (start_there main number edges known (h.0 / length edges.starts) low).1)
      (listed_first (start_there main number edges known (h.0 % length edges.starts) high).1))
  said {cell} (reach_next {from = from} r h) =
      let s = said r in
      let c = row_column from s.inside in
      let i = (h.taken).0 in
      let with = (h.taken).3 in
      let j = with.0 in
      let a = at_place (from / plan.places) i c.0 (h.taken).1 (h.taken).2 in
      let b = at_place (from % plan.places) j c.1 with.1 with.2 in
      let t = with.3 in
      let joint : joint_edges i j ≡ true = joint_said from i j a.1 b.1 h.joint in
      let f = fits_from i j a.0 b.0 joint t.fit in
      let before : Reaches main (edge i).from (edge j).from =
      subst (λ x. Reaches main x (edge j).from) (sym a.1)
      (subst (λ y. Reaches main (from / plan.places) y) (sym b.1) s.reaches) in
      let next = reaches_next main number (edge i) (edge j) (listed i a.0) (listed j b.0) f before in
      said_to i j cell a.0 b.0 t.reached next

  module _ (reached : Reached) (searched : Searched plan edges.starts reached) where
    -- a pair that is reached is marked
    record Got (p q : ℕ) : Type 0 where
      first : p < plan.places
      second : q < plan.places
      marked : Marked reached.marks.items (p * plan.places + q)

    got_start : (p q : ℕ) → OneOf (first_places main) p → OneOf (first_places main) q → Got p q
    got_start p q h g =
        let a = start_number main number edges known p h in
        let b = start_number main number edges known q g in
        let n : ℕ = length edges.starts in
        let row = div-mul-add a.0 (length edges.starts) b.0 b.1 in
        let column = mod-mul-add a.0 (length edges.starts) b.0 b.1 in
        let inside = mul-add-lt a.0 (length edges.starts) b.0 (length edges.starts) a.1 b.1 in
        let p_is : p ≡ slice_index edges.starts ((a.0 * length edges.starts + b.0) / length edges.starts) =
        sym a.2 ∙ ap (λ k. slice_index edges.starts k) (sym row) in
        let q_is : q ≡ slice_index edges.starts ((a.0 * length edges.starts + b.0) % length edges.starts) =
        sym b.2 ∙ ap (λ k. slice_index edges.starts k) (sym column) in
        record {
          first = subst (λ x. x < plan.places) a.2 (started a.0 a.1);
          second = subst (λ x. x < plan.places) b.2 (started b.0 b.1);
          marked = searched.begun (p * plan.places + q) (
            a.0 * length edges.starts + b.0,
            omega arith,
            inside,
            record {
              reached = ap (λ x. x * plan.places + q) p_is
                  ∙ ap (λ y. slice_index edges.starts
                  ((a.0 * length edges.starts + b.0) / length edges.starts) * plan.places + y) q_is;
            },
          );
        }

    got_next : (d e : Edge) → OneOf (follow_edges main) d → OneOf (follow_edges main) e → Fits main d e
        → Got d.from e.from
        → Got d.to e.to
    unfolding edge joint_edges
    got_next d e h g f got =
        let a = edge_number main number edges known d h in
        let b = edge_number main number edges known e g in
        let i = in_steps a.0 a.1 in
        let j = in_steps b.0 b.1 in
        let fits : Fits main (edge_at edges.follows a.0) (edge_at edges.follows b.0) =
        subst (λ x. Fits main x (edge_at edges.follows b.0)) (sym a.2) (subst (λ y. Fits main d y) (sym b.2) f) in
        let from_a : (edge_at edges.follows a.0).from ≡ d.from = ap (λ (x : Edge). x.from) a.2 in
        let from_b : (edge_at edges.follows b.0).from ≡ e.from = ap (λ (x : Edge). x.from) b.2 in
        let to_a : (step_at plan.steps.items a.0).to ≡ d.to = (is.steps a.0 a.1).to ∙ ap (λ (x : Edge). x.to) a.2 in
        let to_b : (step_at plan.steps.items b.0).to ≡ e.to = (is.steps b.0 b.1).to ∙ ap (λ (x : Edge). x.to) b.2 in
        let row : (d.from * plan.places + e.from) / plan.places
        ≡ d.from = div-mul-add d.from plan.places e.from got.second in
        let column : (d.from * plan.places + e.from) % plan.places
        ≡ e.from = mod-mul-add d.from plan.places e.from got.second in
        let place_a = from_place a.0 i in
        let place_b = from_place b.0 j in
        let joint = joint_from a.0 b.0 i j fits in
        let taken : Taken plan a.0 b.0 (d.to * plan.places + e.to) = record {
          fit = fit_from a.0 b.0 i j fits;
          reached = ap (λ x. x * plan.places + e.to) (sym to_a) ∙ ap
              (λ y. (step_at plan.steps.items a.0).to * plan.places + y) (sym to_b);
        } in
        let from_there : TakenFrom plan (edge_at edges.follows a.0).from (edge_at edges.follows b.0).from
        (d.to * plan.places + e.to) =
        (a.0, place_a.0, place_a.1, (b.0, place_b.0, place_b.1, taken)) in
        let leads : Leads plan (d.from * plan.places + e.from) (d.to * plan.places + e.to) = record {
          joint = ap (λ x. joint_at plan.terms x ((d.from * plan.places + e.from) % plan.places)) (row ∙ sym from_a)
              ∙ ap (λ y. joint_at plan.terms (edge_at edges.follows a.0).from y) (column ∙ sym from_b) ∙ joint;
          taken = subst (λ x. TakenFrom plan x ((d.from * plan.places + e.from) % plan.places)
              (d.to * plan.places + e.to)) (from_a ∙ sym row)
              (subst (λ y. TakenFrom plan (edge_at edges.follows a.0).from y (d.to * plan.places + e.to))
              (from_b ∙ sym column) from_there);
        } in
        record {
          first = subst (λ x. x < plan.places) to_a ((is.shaped).tos a.0 i);
          second = subst (λ x. x < plan.places) to_b ((is.shaped).tos b.0 j);
          marked = searched.closed (d.from * plan.places + e.from) (d.to * plan.places + e.to) got.marked leads;
        }

    got : (p q : ℕ) → Reaches main p q → Got p q
    got p q r = reaches_all main number Got got_start got_next p q r

    reaches_from_mark : (p q : ℕ) → q < plan.places → Marked reached.marks.items (p * plan.places + q)
        → Reaches main p q
    reaches_from_mark p q l h =
        let s = said (searched.sound (p * plan.places + q) h) in
        subst (λ x. Reaches main x q) (div-mul-add p plan.places q l)
        (subst (λ y. Reaches main ((p * plan.places + q) / plan.places) y) (mod-mul-add p plan.places q l) s.reaches)

    pub together_told : (p q : ℕ) → q < plan.places → Marked reached.marks.items (p * plan.places + q)
        ↔ Together main p q
    together_told p q l = (
      λ h. inl (reaches_from_mark p q l h),
      λ t. (got p q (reaches_from_together main p q t)).marked,
    )

    -- the table of marks tells which places are together
    pub told : (pairs : Pairs) → pairs.places ≡ plan.places → pairs.table.items ≡ reached.marks.items
        → TellsTogether main pairs
    told pairs places table = record {
      places = places ∙ is.places;
      exact = λ p q a b.
          let l : q < plan.places = let e = is.places in omega arith in
          let same : says pairs p q ≡ get_or reached.marks.items (p * plan.places + q) false = rw
          (places, table) refl in
          let h = together_told p q l in
          ((λ t. h.0 (sym same ∙ t)), (λ t. same ∙ h.1 t));
    }

    -- Refusals

    lead : ℕ → ℕ → Bool
    lead i j = marked_at plan reached (step_at plan.steps.items i).from (step_at plan.steps.items j).from
        && joint_at plan.terms (step_at plan.steps.items i).from (step_at plan.steps.items j).from

    -- steps that refuse a scope, from a pair that was reached
    record Refusing (i j s : ℕ) : Type 0 where
      marked : marked_at plan reached (step_at plan.steps.items i).from (step_at plan.steps.items j).from ≡ true
      joint : joint_at plan.terms (step_at plan.steps.items i).from (step_at plan.steps.items j).from ≡ true
      fit : fit_at plan.steps.items i j ≡ true
      scope : refused_scope (step_at plan.steps.items i) (step_at plan.steps.items j) ≡ Some s

    refusing_to : (i j s : ℕ) → refused_at plan reached i j ≡ Some s → Refusing i j s
    unfolding lead
    refusing_to i j s h =
        let scope : Option ℕ = refused_scope (step_at plan.steps.items i) (step_at plan.steps.items j) in
        elim (cases_Bool (lead i j && fit_at plan.steps.items i j)) [
          | inl t ↦
              let p = and_parts (lead i j) (fit_at plan.steps.items i j) t in
              let q = and_parts (marked_at plan reached (step_at plan.steps.items i).from
              (step_at plan.steps.items j).from)
              (joint_at plan.terms (step_at plan.steps.items i).from (step_at plan.steps.items j).from) p.0 in
              record {
                marked = q.0;
                joint = q.1;
                fit = p.1;
                scope = sym (cond-true (lead i j && fit_at plan.steps.items i j) scope None t) ∙ h;
              }
          | inr f ↦
              let none : ◌≡◌ {A = Option ℕ} None (Some s) =
              sym (cond-false (lead i j && fit_at plan.steps.items i j) scope None f) ∙ h in
              absurd (cc)
        ]

    refusing_from : (i j s : ℕ) → Refusing i j s → refused_at plan reached i j ≡ Some s
    unfolding lead
    refusing_from i j s r =
        cond-true (lead i j && fit_at plan.steps.items i j)
        (refused_scope (step_at plan.steps.items i) (step_at plan.steps.items j)) None
        (and_from (lead i j) (fit_at plan.steps.items i j)
        (and_from (marked_at plan reached (step_at plan.steps.items i).from (step_at plan.steps.items j).from)
        (joint_at plan.terms (step_at plan.steps.items i).from (step_at plan.steps.items j).from) r.marked r.joint)
        r.fit) ∙ r.scope

    pub refused_from : (s : ℕ) → Between 0 (length plan.steps.items) (RefusesWith plan reached) s → IsRefused main s
    unfolding step joint_edges
    refused_from s h =
        let j = h.0 in
        let m = h.2 in
        let i = (h.3).0 in
        let l = (h.3).2 in
        let r = refusing_to i j s (h.3).3 in
        let a = from_is i l in
        let b = from_is j m in
        let q_low : (edge j).from < plan.places = let e = is.places in let f = (is_edge j m).from in omega arith in
        let joint : joint_at plan.terms (edge i).from (edge j).from ≡ true =
        ap (λ p. joint_at plan.terms p (edge j).from) (sym a)
        ∙ ap (λ q. joint_at plan.terms (step_at plan.steps.items i).from q) (sym b) ∙ r.joint in
        let marked : Marked reached.marks.items ((edge i).from * plan.places + (edge j).from) =
        ap (λ p. get_or reached.marks.items (p * plan.places + (edge j).from) false) (sym a)
        ∙ ap (λ q. get_or reached.marks.items ((step_at plan.steps.items i).from * plan.places + q) false) (sym b)
        ∙ r.marked in
        refused_by_numbers main number s (edge i) (edge j) (listed i l) (listed j m) (fits_from i j l m joint r.fit)
        (reaches_from_mark (edge i).from (edge j).from q_low marked)
        (inl (refused_from_steps main number right (edge i) (edge j) (step i) (step j) s (is_edge i l) (is_edge j m)
        (is_step i l) (is_step j m) r.scope))

    -- two edges that refuse a scope are steps that refuse one as low
    refusing : (d e : Edge) (s : ℕ) → OneOf (follow_edges main) d → OneOf (follow_edges main) e → Fits main d e
        → Reaches main d.from e.from → NodeInBody main d.node s → EntersByNumber main e.to e.node s
        → (t : ℕ) × (t ≤ s) × Between 0 (length plan.steps.items) (RefusesWith plan reached) t
    unfolding edge step joint_edges
    refusing d e s h g f r body enters =
        let a = edge_number main number edges known d h in
        let b = edge_number main number edges known e g in
        let i = in_steps a.0 a.1 in
        let j = in_steps b.0 b.1 in
        let fits : Fits main (edge_at edges.follows a.0) (edge_at edges.follows b.0) =
        subst (λ x. Fits main x (edge_at edges.follows b.0)) (sym a.2) (subst (λ y. Fits main d y) (sym b.2) f) in
        let reaches : Reaches main (edge_at edges.follows a.0).from (edge_at edges.follows b.0).from =
        subst (λ x. Reaches main x.from (edge_at edges.follows b.0).from) (sym a.2)
        (subst (λ y. Reaches main d.from y.from) (sym b.2) r) in
        let lies : NodeInBody main (edge_at edges.follows a.0).node s = subst (λ x. NodeInBody main x.node s)
        (sym a.2) body in
        let goes : EntersByNumber main (edge_at edges.follows b.0).to (edge_at edges.follows b.0).node s =
        subst (λ x. EntersByNumber main x.to x.node s) (sym b.2) enters in
        let t = least_from_steps main number right (edge a.0) (edge b.0) (step a.0) (step b.0) s (is_edge a.0 i)
        (is_edge b.0 j)
        (is_step a.0 i) (is_step b.0 j) lies goes in
        let from_a = from_is a.0 i in
        let from_b = from_is b.0 j in
        let marked = (got (edge_at edges.follows a.0).from (edge_at edges.follows b.0).from reaches).marked in
        let joint = joint_from a.0 b.0 i j fits in (
          t.0,
          t.2,
          (
            b.0,
            omega arith,
            j,
            (
              a.0,
              omega arith,
              i,
              refusing_from a.0 b.0 t.0 (record {
                marked = ap (λ p. get_or reached.marks.items
                    (p * plan.places + (step_at plan.steps.items b.0).from) false) from_a
                    ∙ ap (λ q. get_or reached.marks.items
                    ((edge_at edges.follows a.0).from * plan.places + q) false) from_b ∙ marked;
                joint = ap (λ p. joint_at plan.terms p (step_at plan.steps.items b.0).from) from_a
                    ∙ ap (λ q. joint_at plan.terms (edge_at edges.follows a.0).from q) from_b ∙ joint;
                fit = fit_from a.0 b.0 i j fits;
                scope = t.1;
              }),
            ),
          ),
        )

    pub refused_to : (s : ℕ) → IsRefused main s
        → (t : ℕ) × (t ≤ s) × Between 0 (length plan.steps.items) (RefusesWith plan reached) t
    refused_to s h =
        let r = numbers_of_refused main number s h in
        let f = r.4 in
        elim r.6 [
          | inl a ↦ refusing r.0 r.1 s r.2 r.3 r.4 r.5 a.0 a.1
          | inr b ↦ refusing r.1 r.0 s r.3 r.2
              (record {
                terms = ((f.terms).0, (f.terms).2, (f.terms).1);
                aborts = f.aborts_back;
                aborts_back = f.aborts;
              })
              (reaches_from_together main (r.1).from (r.0).from (inr r.5)) b.1 b.0
        ]

    -- the lowest one that the steps refuse is the lowest one that is refused
    pub none_refused : IsLowest (Between 0 (length plan.steps.items) (RefusesWith plan reached)) None → (s : ℕ)
        → IsRefused main s → ⊥
    none_refused l s h =
        let w = refused_to s h in
        let t = l.least w.0 w.2 in
        let z : ◌≡◌ {A = Option ℕ} None (Some t.0) = t.1 in
        absurd (cc)

    pub lowest_is : (u : ℕ) → IsLowest (Between 0 (length plan.steps.items) (RefusesWith plan reached)) (Some u)
        → IsRefused main u × ((t : ℕ) → t < u → IsRefused main t → ⊥)
    lowest_is u l = (
      refused_from u (l.found u refl),
      λ t less h.
          let w = refused_to t h in
          let k = l.least w.0 w.2 in
          let z : ◌≡◌ {A = Option ℕ} (Some u) (Some k.0) = k.1 in
          let same : u ≡ k.0 = cc in
          let a = w.1 in let b = k.2 in omega arith,
    )

  -- a scope that is refused has a range
  pub range_of_refused : (s : ℕ) → IsRefused main s → (r : ScopeRange) × (slice_get (ranges main) s ≡ Some r)
  range_of_refused s h =
      let r = numbers_of_refused main number s h in
      let d = in_tree main number r.0 (follow_listed main r.0 r.2) in
      let e = in_tree main number r.1 (follow_listed main r.1 r.3) in
      elim r.6 [
        | inl a ↦ let w = body_to main number right (r.0).node s d.node a.0 in (w.0, w.1)
        | inr b ↦ let w = body_to main number right (r.1).node s e.node b.1 in (w.0, w.1)
      ]

  pub starts_below : (k : ℕ) → k < length edges.starts → slice_index edges.starts k < plan.places
  starts_below k l = started k l

  pub few_starts : length edges.starts ≤ 4096
  few_starts =
      let a = few_rising edges.starts plan.places known.starts_rise starts_below in
      let b = (is.shaped).few in omega arith
