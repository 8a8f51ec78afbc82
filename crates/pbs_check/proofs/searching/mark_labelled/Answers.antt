use Rattle.std.proofs.Common.{◌≡◌, ℕ, Some, sym, subst}
use Rattle.std.specs.Prelude.{slice_get}
use Rattle.pbs_check.proofs.GraphLemmas.{on_ok}
use Rattle.pbs_check.proofs.SearchLemmas.{grows_as}
use Rattle.pbs_check.proofs.searching.mark_labelled.Goals as goal

pub returns-then-has_label-clause-grows : goal.returns-then-has_label-clause-grows
returns-then-has_label-clause-grows c =
    let labels = c.args.labels.now in let number = c.args.number in
    let R : ℕ → Type 0 = λ k. slice_get labels k ≡ Some c.args.label in
    let P : ℕ → Type 0 = λ k. k ≡ number in let Q : ℕ → Type 0 = λ k. (k ≡ number) × R k in
    on_ok c.mark.result c.mark.ensures.grows (λ grows. grows_as c.args.root P Q c.args.search.now c.mark.new.search
    (λ k same. (same, subst R (sym same) (c.has_label.ensures.0 c.if-has_label.true))) grows)
