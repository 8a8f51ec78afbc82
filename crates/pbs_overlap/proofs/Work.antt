-- What marking cells does to the state of a search.
use Rattle.std.proofs.Common.{◌≡◌, ℕ, ◌+◌, ◌<◌, ◌≤◌, Bool, true, false, cond, inl, inr, List, [], ◌∷◌, ◌++◌, length}
use Rattle.std.proofs.Common.{get_or, set}
use Rattle.std.proofs.Common.{refl, sym, ◌∙◌, ap, subst, arith, length-append, length-set}
use Rattle.std.proofs.Math.ListN.{get_or-eq_default}
use Rattle.std.specs.Prelude.{count_by}
use Rattle.std.proofs.lemmas.Bool.{cases_eq, cases_lt}
use Rattle.std.proofs.lemmas.List.{get_or_push, get_or-set_same, get_or-set_other, get_or_append_left}
use Rattle.std.proofs.lemmas.List.Sums.{sum_by-set}
use Rattle.pbs_overlap.specs.declared.search.Reached.{Reached}
use Rattle.pbs_overlap.specs.inner.Search.{IsWork, Visits, Between, Marked}

count-set : (marks : List Bool) (i : ℕ) → i < length marks → get_or marks i false ≡ false
    → count_by (λ b. b) (set marks i true) ≡ count_by (λ b. b) marks + 1
count-set marks i l h =
    let e = sum_by-set (λ (b : Bool). cond {A = ℕ} b 1 0) marks i true false l in
    let f : cond {A = ℕ} (get_or marks i false) 1 0 ≡ 0 = ap (λ (b : Bool). cond {A = ℕ} b 1 0) h in
    omega arith

module _ (marks : List Bool) (queue : List ℕ) (cell : ℕ) (inside : cell < length marks) where
  pub mark-kept : (i : ℕ) → Marked marks i → Marked (set marks cell true) i
  mark-kept i h = elim (cases_eq i cell) [
    | inl e ↦ subst (λ n. Marked (set marks cell true) n) (sym e) (get_or-set_same marks cell true false inside)
    | inr n ↦ get_or-set_other marks cell i true false n ∙ h
  ]

  pub mark_work : get_or marks cell false ≡ false → IsWork marks queue → IsWork (set marks cell true)
      (queue ++ cell ∷ [])
  mark_work unmarked work =
      let longer : length (queue ++ cell ∷ []) ≡ length queue + 1 = length-append queue (cell ∷ []) in
      let same : length (set marks cell true) ≡ length marks = length-set marks cell true in
      record {
        listed = λ i h. elim (cases_eq i cell) [
          | inl e ↦ (length queue, omega arith, get_or_push queue cell 0 (length queue) refl ∙ sym e)
          | inr n ↦
              let old = work.listed i (sym (get_or-set_other marks cell i true false n) ∙ h) in
              (old.0, let l = old.1 in omega arith, get_or_append_left queue (cell ∷ []) 0 old.0 old.1 ∙ old.2)
        ];
        marked = λ k l. elim (cases_lt k (length queue)) [
          | inl below ↦ subst (λ n. Marked (set marks cell true) n)
              (sym (get_or_append_left queue (cell ∷ []) 0 k below))
              (mark-kept (get_or queue k 0) (work.marked k below))
          | inr last ↦ subst (λ n. Marked (set marks cell true) n) (sym (get_or_push queue cell 0 k (omega arith)))
              (get_or-set_same marks cell true false inside)
        ];
        inside = λ k l. elim (cases_lt k (length queue)) [
          | inl below ↦
              let old = work.inside k below in let e = get_or_append_left queue (cell ∷ []) 0 k below in omega arith
          | inr last ↦ let e = get_or_push queue cell 0 k (omega arith) in omega arith
        ];
        counted = let more = count-set marks cell inside unmarked in let old = work.counted in omega arith;
      }

-- the cell wasn't marked
pub visits_new : (old new : Reached) (cell : ℕ) → cell < length old.marks.items
    → new.marks.items ≡ set old.marks.items cell true → new.queue.items ≡ old.queue.items ++ cell ∷ []
    → get_or old.marks.items cell false ≡ false → IsWork old.marks.items old.queue.items → Visits
    (λ j. j ≡ cell) old new
visits_new old new cell inside m q unmarked work = record {
  work = subst (λ ms. IsWork ms new.queue.items) (sym m)
      (subst (λ qs. IsWork (set old.marks.items cell true) qs) (sym q)
      (mark_work old.marks.items old.queue.items cell inside unmarked work));
  kept = λ i h. subst (λ ms. Marked ms i) (sym m) (mark-kept old.marks.items old.queue.items cell inside i h);
  reached = λ i e. subst (λ ms. Marked ms i) (sym m) (subst (λ n. Marked (set old.marks.items cell true) n) (sym e)
      (get_or-set_same old.marks.items cell true false inside));
  only = λ i h. elim (cases_eq i cell) [
    | inl e ↦ inr e
    | inr n ↦ inl (sym (get_or-set_other old.marks.items cell i true false n) ∙ subst (λ ms. Marked ms i) m h)
  ];
  same_size = ap (λ ms. length ms) m ∙ length-set old.marks.items cell true;
  longer = let e = ap (λ qs. length qs) q in let l = length-append old.queue.items (cell ∷ []) in omega arith;
  same_front = λ k l. ap (λ qs. get_or qs k 0) q ∙ get_or_append_left old.queue.items (cell ∷ []) 0 k l;
}

-- an iteration of a loop that visits what has the property P at its index
pub visits_more : {P : ℕ → ℕ → Type 0} {a : ℕ} {x y z : Reached} (n : ℕ) → a ≤ n → Visits (Between a n P) x y
    → Visits (P n) y z → Visits (Between a (n + 1) P) x z
visits_more {P} n low f g = record {
  work = g.work;
  kept = λ i h. g.kept i (f.kept i h);
  reached = λ i h. elim (cases_eq h.0 n) [
    | inl e ↦ g.reached i (subst (λ m. P m i) e h.3)
    | inr ne ↦ g.kept i (f.reached i (h.0, h.1, (let l = h.2 in omega arith), h.3))
  ];
  only = λ i h. elim (g.only i h) [
    | inl old ↦ elim (f.only i old) [
      | inl first ↦ inl first
      | inr some ↦ inr (some.0, some.1, (let l = some.2 in omega arith), some.3)
    ]
    | inr now ↦ inr (n, low, omega arith, now)
  ];
  same_size = g.same_size ∙ f.same_size;
  longer = let l = f.longer in let m = g.longer in omega arith;
  same_front = λ k l. g.same_front k (let m = f.longer in omega arith) ∙ f.same_front k l;
}

-- the same for a property that has the same cells
pub visits_as : {T U : ℕ → Type 0} {x y : Reached} → Visits T x y → ((i : ℕ) → T i → U i) → ((i : ℕ) → U i → T i)
    → Visits U x y
visits_as f to from = record {
  work = f.work;
  kept = f.kept;
  reached = λ i h. f.reached i (from i h);
  only = λ i h. elim (f.only i h) [ inl old ↦ inl old | inr new ↦ inr (to i new) ];
  same_size = f.same_size;
  longer = f.longer;
  same_front = f.same_front;
}

-- the loop's end
pub visits_to : {P : ℕ → ℕ → Type 0} {a : ℕ} {x y : Reached} (n m : ℕ) → n ≡ m → Visits (Between a n P) x y
    → Visits (Between a m P) x y
visits_to {P} {a} {x} {y} n m e f = subst (λ k. Visits (Between a k P) x y) e f
