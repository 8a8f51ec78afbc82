use Rattle.std.proofs.Common.{◌≡◌, ℕ, List, Some, sym, subst}
use Rattle.std.specs.Prelude.{Contains, slice_get}
use Rattle.pbs_check.specs.inner.Links.{HasNext, By}
use Rattle.pbs_check.proofs.GraphLemmas.{get_at, on_ok}
use Rattle.pbs_check.proofs.SearchLemmas.{grows_as, next_at, no_next_at}
use Rattle.pbs_check.proofs.searching.visit.Goals as goal

pub returns-in-Some-clause-grows : goal.returns-in-Some-clause-grows
returns-in-Some-clause-grows c =
    let lists = c.args.lists.now in let n = c.args.number in let labels = c.args.labels.now in
    let list = c.as_slice.result.now in let L : ℕ → Type 0 = λ k. slice_get labels k ≡ Some c.args.label in
    let at : slice_get lists n ≡ Some c.in-Some.list.now = get_at lists n c.in-Some.list.now
    (c.in-Some.ensures.lookup.3.0) c.in-Some.ensures.lookup.1 in
    let P : ℕ → Type 0 = λ k. Contains list k × L k in let Q : ℕ → Type 0 = λ k. HasNext lists n k × L k in
    let has = λ (k : ℕ) (both : Contains list k × L k).
    (let R : List ℕ → Type 0 = λ xs. Contains xs k in By at (subst R c.as_slice.ensures.value both.0)) in
    on_ok c.mark_all.result c.mark_all.ensures.grows (λ grows. grows_as c.args.root P Q c.args.search.now
    c.mark_all.new.search (λ k both. (has k both, both.1)) grows)

pub returns-in-Some-clause-marked : goal.returns-in-Some-clause-marked
returns-in-Some-clause-marked c =
    let lists = c.args.lists.now in let n = c.args.number in
    let at : slice_get lists n ≡ Some c.in-Some.list.now = get_at lists n c.in-Some.list.now
    (c.in-Some.ensures.lookup.3.0) c.in-Some.ensures.lookup.1 in
    on_ok c.mark_all.result c.mark_all.ensures.marked (λ marked k used labelled few.
    (let R : List ℕ → Type 0 = λ xs. Contains xs k in marked k
    (subst R (sym c.as_slice.ensures.value) (next_at lists n c.in-Some.list.now at k used)) labelled few))

pub returns-in-None-clause-marked : goal.returns-in-None-clause-marked
returns-in-None-clause-marked c = λ k used labelled few. absurd (no_next_at c.args.lists.now c.args.number
    c.in-None.ensures.lookup.3 k used)
