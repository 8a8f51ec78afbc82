-- The search as a whole.
use Rattle.std.proofs.Common.{◌≡◌, ℕ, zero, suc, ◌+◌, ◌*◌, ◌<◌, ◌≤◌, Bool, false, inl, inr, List, [], length}
use Rattle.std.proofs.Common.{refl, sym, ◌∙◌, ap, subst, arith}
use Rattle.std.specs.Prelude.{replicate, slice_index, count_by}
use Rattle.std.proofs.lemmas.Bool.{cases_eq, false≢true}
use Rattle.std.proofs.lemmas.List.{length-replicate}
use Rattle.std.proofs.lemmas.List.Sums.{count_by-le-length}
use Rattle.pbs_overlap.specs.declared.search.Plan.{Plan}
use Rattle.pbs_overlap.specs.declared.search.Reached.{Reached}
use Rattle.pbs_overlap.specs.inner.Search.{IsWork, Visits, Between, Marked, Leads, IsStart, reach_start, reach_next}
use Rattle.pbs_overlap.specs.inner.Search.{Searching, Searched}

none-marked : (n i : ℕ) → Marked (replicate n false) i → ⊥
none-marked zero i h = absurd (cc)
none-marked (suc n) zero h = false≢true h
none-marked (suc n) (suc i) h = none-marked n i h

pub queue-fits : (marks : List Bool) (queue : List ℕ) → IsWork marks queue → length queue ≤ length marks
queue-fits marks queue work =
    let c = work.counted in let l = count_by-le-length (λ (b : Bool). b) marks in omega arith

pub search_begun : (plan : Plan) (starts : List ℕ) (none new : Reached)
    → none.marks.items ≡ replicate (plan.places * plan.places) false
    → Visits (Between 0 (length starts * length starts) (IsStart plan.places starts)) none new
    → Searching plan starts 0 new
search_begun plan starts none new clean f = record {
  work = f.work;
  size = f.same_size ∙ ap (λ ms. length ms) clean ∙ length-replicate (plan.places * plan.places) false;
  within = omega arith;
  begun = f.reached;
  done = λ k cell l h. absurd (omega arith);
  sound = λ cell h. elim (f.only cell h) [
    | inl old ↦ absurd (none-marked (plan.places * plan.places) cell (subst (λ ms. Marked ms cell) clean old))
    | inr first ↦ reach_start first
  ];
}

pub search_next : (plan : Plan) (starts : List ℕ) (next : ℕ) (old new : Reached) → Searching plan starts next old
    → next < length old.queue.items → Visits (Leads plan (slice_index old.queue.items next)) old new
    → Searching plan starts (next + 1) new
search_next plan starts next old new s l f = record {
  work = f.work;
  size = f.same_size ∙ s.size;
  within = let m = f.longer in omega arith;
  begun = λ cell h. f.kept cell (s.begun cell h);
  done = λ k cell h g.
      let w = s.within in
      let was : Leads plan (slice_index old.queue.items k) cell =
      subst (λ i. Leads plan i cell) (f.same_front k (omega arith)) g in
      elim (cases_eq k next) [
        | inl e ↦ f.reached cell (subst (λ m. Leads plan (slice_index old.queue.items m) cell) e was)
        | inr ne ↦ f.kept cell (s.done k cell (omega arith) was)
      ];
  sound = λ cell h. elim (f.only cell h) [
    | inl before ↦ s.sound cell before
    | inr now ↦ reach_next (s.sound (slice_index old.queue.items next) ((s.work).marked next l)) now
  ];
}

pub search_end : (plan : Plan) (starts : List ℕ) (next : ℕ) (reached : Reached) → Searching plan starts next reached
    → length reached.queue.items ≤ next → Searched plan starts reached
search_end plan starts next reached s ended = record {
  size = s.size;
  begun = s.begun;
  closed = λ from cell h g.
      let found = (s.work).listed from h in
      s.done found.0 cell (let l = found.1 in omega arith) (subst (λ i. Leads plan i cell) (sym found.2) g);
  sound = s.sound;
}
